use Rattle.std.proofs.Common.{◌≡◌, ℕ, ◌+◌, ◌-◌, ◌/◌, ◌%◌, ◌||◌, false, slice_index_or, ap, ◌∙◌, arith}
use Rattle.h265_model.specs.declared.rect.Rect.{Rect}
use Rattle.h265_model.specs.Plain.{ctus}
use Rattle.desk_surface.specs.Damage.{is_between}
use Rattle.desk_surface.proofs.Meets.{meets_between}
use Rattle.desk_surface.proofs.flags.raise.Goals as goal

pub returns-in-Some-clause-raised : goal.returns-in-Some-clause-raised
returns-in-Some-clause-raised c = λ t less.
    let size = c.args.size in
    let known = c.in-Some.ensures.value in
    let met = meets_between size c.args.rect t known.0 less in
    let sides = ap (λ (part : Rect). is_between (part.x / 32) ((part.x + part.w - 1) / 32 + 1) (part.y / 32) ((part.y + part.h - 1) / 32 + 1) (t % ctus size.w) (t / ctus size.w)) known.1 in
    let across : (c.w.result + 31) / 32 ≡ ctus size.w = ap (λ (n : ℕ). (n + 31) / 32) c.w.ensures.value in
    c.raise_between.ensures.raised t (let l = c.requires in omega arith) ∙ ap (λ (n : ℕ). slice_index_or c.args.flags.now t false || is_between (c.in-Some.part.x / 32) ((c.in-Some.part.x + c.in-Some.part.w - 1) / 32 + 1) (c.in-Some.part.y / 32) ((c.in-Some.part.y + c.in-Some.part.h - 1) / 32 + 1) (t % n) (t / n)) across ∙ ap (λ b. slice_index_or c.args.flags.now t false || b) (sides ∙ met)
