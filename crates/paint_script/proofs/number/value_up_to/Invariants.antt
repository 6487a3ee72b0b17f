use Rattle.std.proofs.Common.{◌≡◌, ◌≤◌, drop}
use Rattle.std.specs.Str.Parse.{digits_value, digits_value_after}
use Rattle.recorder_model.specs.Script.{all_digits}
use Rattle.paint_script.proofs.number.value_up_to.Given as goal

abbrev pub invariant-loop-digit : goal.invariant-loop-digit
invariant-loop-digit l = record {
  digits : all_digits (drop l.digit-index l.text) ≡ all_digits l.text;
  value : digits_value_after 10 l.value (drop l.digit-index l.text) ≡ digits_value 10 l.text;
  within : l.value ≤ l.most;
}
