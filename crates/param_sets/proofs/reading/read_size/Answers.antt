use Rattle.std.proofs.Common.{◌≡◌, ℕ, List, Bool, Result, Ok, Err, sym, subst}
use Rattle.std.specs.Prelude.{MatchResult, ok_or}
use Rattle.std.proofs.lemmas.Result.{err_from_is_err_and}
use Rattle.h265_model.specs.Plain.{Size}
use Rattle.h265_model.specs.Bits.{read_u}
use Rattle.h265_model.specs.ParamSets.{read_size}
use Rattle.bit_string.proofs.ReadLaws.{read_some, read_none}
use Rattle.param_sets.proofs.SizeLaws.{no_width, no_height, no_flag, flag_unset, flag_set, whole_read, side_is}
use Rattle.param_sets.proofs.reading.read_size.Goals as goal

pub returns-in_err-w : goal.returns-in_err-w
returns-in_err-w c =
    let p = err_from_is_err_and c.from_residual.result c.from_residual.ensures.1 in
    rw (p.1, p.2) (no_width c.args.from.now.left c.in_err-w.field-0.0 c.in_err-w.ensures.read)

pub returns-in_err-h : goal.returns-in_err-h
returns-in_err-h c =
    let p = err_from_is_err_and c.from_residual-in_err-h.result c.from_residual-in_err-h.ensures.1 in
    rw (p.1, p.2) (no_height c.args.from.now.left c.in_ok-w.w c.read_side.new.from.left c.in_err-h.field-0.0 c.in_ok-w.ensures.read c.in_err-h.ensures.read)

pub returns-in-None : goal.returns-in-None
returns-in-None c =
    let z = c.read_side-2.new.from.left in
    no_flag c.args.from.now.left c.in_ok-w.w c.read_side.new.from.left c.in_ok-h.h z c.in_ok-w.ensures.read c.in_ok-h.ensures.read (read_none (read_u 1 z) c.in-None.ensures.value)

abbrev Reads : Result Size ℕ → List Bool → Result (Size × List Bool) ℕ → Type 0
Reads r rest whole = MatchResult r (λ size. whole ≡ Ok (size, rest)) (λ field. whole ≡ Err field)

pub returns-in-Some-eq0 : goal.returns-in-Some-eq0
returns-in-Some-eq0 c =
    let x = c.args.from.now.left in
    let z = c.read_side-2.new.from in
    let t = c.bits.new.self in
    let w = c.in_ok-w.w in
    let h = c.in_ok-h.h in
    let v = c.in-Some-eq0.field-0 in
    let is = flag_unset x w c.read_side.new.from.left h z.left v t.left c.in_ok-w.ensures.read c.in_ok-h.ensures.read
    (read_some (read_u 1 z.left) v z t c.in-Some-eq0.ensures.value c.in-Some-eq0.ensures.after) c.in-Some-eq0.field-0-test in
    let P : Result (Size × List Bool) ℕ → Type 0 = Reads (ok_or c.new.result 10) t.left in
    let Q : Result Size ℕ → Type 0 = λ r. Reads r t.left (read_size x) in
    subst Q (sym c.ok_or.ensures.value) (subst P (sym is) (whole_read w h t.left c.new.result (side_is w c.in_ok-w.ensures.coded) (side_is h c.in_ok-h.ensures.coded) c.new.ensures))

pub returns-in-Some : goal.returns-in-Some
returns-in-Some c =
    let x = c.args.from.now.left in
    let z = c.read_side-2.new.from in
    let t = c.bits.new.self in
    let w = c.in_ok-w.w in
    let h = c.in_ok-h.h in
    let v = c.in-Some.field-0 in
    let is = flag_set x w c.read_side.new.from.left h z.left v t.left c.in_ok-w.ensures.read c.in_ok-h.ensures.read
    (read_some (read_u 1 z.left) v z t c.in-Some.ensures.value c.in-Some.ensures.after) c.in-Some.field-0-test.1 in
    let P : Result (Size × List Bool) ℕ → Type 0 = Reads c.read_window.result c.read_window.new.from.left in
    subst P (sym is) c.read_window.ensures
