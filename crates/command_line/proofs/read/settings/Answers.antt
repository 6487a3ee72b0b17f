use Rattle.std.proofs.Common.{rules}
use Rattle.command_line.specs.Words.{settings_words}
use Rattle.command_line.proofs.read.settings.Goals as goal

pub returns-in_err-size-clause-value : goal.returns-in_err-size-clause-value
unfolding settings_words
returns-in_err-size-clause-value c = search rules

pub returns-in_err-effort-clause-value : goal.returns-in_err-effort-clause-value
unfolding settings_words
returns-in_err-effort-clause-value c = search rules

pub returns-in_err-key-clause-value : goal.returns-in_err-key-clause-value
unfolding settings_words
returns-in_err-key-clause-value c = search rules

pub returns-then-not-is_wide_enough-clause-value : goal.returns-then-not-is_wide_enough-clause-value
unfolding settings_words
returns-then-not-is_wide_enough-clause-value c = search rules

pub returns-clause-value : goal.returns-clause-value
unfolding settings_words
returns-clause-value c = search rules
