use Rattle.std.proofs.Common.{length}
use Rattle.cabac_dec.proofs.Bins.{no_samples, no_start, all_read}
use Rattle.cabac_dec.proofs.decoder.Decoder.pcm.Goals as goal

pub returns-in_err-window-clause-value : goal.returns-in_err-window-clause-value
returns-in_err-window-clause-value c =
    let i = c.self.inside in
    rw (c.from_residual.ensures, ← c.self.view_is) (no_samples (length c.args.out.now) i.range i.contexts i.window c.in_err-window.ensures)

pub returns-clause-value : goal.returns-clause-value
returns-clause-value c =
    let i = c.self.inside in
    rw (c.self-2.view_is, ← c.self.view_is) (all_read (length c.args.out.now) i.range i.contexts c.samples.new.out i.window c.in_ok-window.window c.in_ok-self-inside.field-0 c.in_ok-window.ensures.1 c.in_ok-self-inside.ensures.value)

pub returns-in_err-self-inside-clause-value : goal.returns-in_err-self-inside-clause-value
returns-in_err-self-inside-clause-value c =
    let i = c.self.inside in
    rw (c.from_residual-in_err-self-inside.ensures, ← c.self.view_is)
    (no_start (length c.args.out.now) i.range i.contexts c.samples.new.out i.window c.in_ok-window.window c.in_ok-window.ensures.1 c.in_err-self-inside.ensures.value)
