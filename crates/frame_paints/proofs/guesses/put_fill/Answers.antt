use Rattle.std.proofs.Common.{◌≡◌, subst}
use Rattle.std.proofs.lemmas.Result.{on_ok_weaker}
use Rattle.h265_model.specs.Plain.{Size}
use Rattle.frame_paints.specs.Parts.{IsInRows}
use Rattle.frame_paints.proofs.InRows.{paints_none, fill_kept, kept_either}
use Rattle.frame_paints.proofs.guesses.put_fill.Goals as goal

pub returns-then-not-is_in_rows : goal.returns-then-not-is_in_rows
returns-then-not-is_in_rows c = paints_none c.args.shown.now c.args.script.now c.args.top c.args.bottom

pub returns : goal.returns
returns c =
    let old = c.args.shown.now in
    let new = c.put.new.shown in
    let fill = c.args.fill in
    let top = c.args.top in
    let bottom = c.args.bottom in
    let inside = subst (λ (s : Size). IsInRows s fill.rect top bottom) c.size.ensures.value (c.is_in_rows.ensures c.if-not-is_in_rows.false) in
    record {
      went = c.put.ensures.went;
      beside =
          kept_either old new 0 old.size.w top bottom c.put.result
          (on_ok_weaker c.put.result (λ drawn. fill_kept old new fill.rect fill.colour top bottom c.put.ensures.went.size inside drawn) c.put.ensures.drawn) c.put.ensures.unchanged;
    }
