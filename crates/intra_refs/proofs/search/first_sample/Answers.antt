use Rattle.std.proofs.Common.{◌≡◌, ℕ, ◌+◌, ◌*◌, ◌<◌, arith, sym, ap, ◌∙◌, Option, None, Some}
use Rattle.h265_model.specs.Plain.{side}
use Rattle.px_plane.specs.Planes.{picture_of}
use Rattle.intra_refs.specs.Neighbours.{neighbour, AreMissing, IsFirst}
use Rattle.intra_refs.proofs.Filling.{first_is, none_is, missing_up_to, missing_at}
use Rattle.intra_refs.proofs.search.first_sample.Goals as goal

pub returns-in-Some : goal.returns-in-Some
returns-in-Some c =
    let p = picture_of c.args.picture.now in
    let f : ℕ → Option ℕ = neighbour c.args.picture.now.size p c.args.component c.args.block in
    let found : IsFirst f 0 (2 * side c.args.block) c.in-Some.sample = c.in-Some.ensures in
    let at : ℕ = found.at in
    let within : at < 2 * side c.args.block = found.within in
    sym (first_is c.args.picture.now.size p c.args.component c.args.block at c.in-Some.sample (omega arith) (missing_at f at found.before) (ap f (omega arith) ∙ found.here))

pub returns-in-Some-corner : goal.returns-in-Some-corner
returns-in-Some-corner c =
    let p = picture_of c.args.picture.now in
    let f : ℕ → Option ℕ = neighbour c.args.picture.now.size p c.args.component c.args.block in
    let left : AreMissing f 0 (2 * side c.args.block) = c.in_default.ensures in
    let here : Some c.in-Some-corner.sample ≡ f (2 * side c.args.block) = c.in-Some-corner.ensures in
    sym (first_is c.args.picture.now.size p c.args.component c.args.block (2 * side c.args.block) c.in-Some-corner.sample (omega arith) (missing_at f (2 * side c.args.block) left) (sym here))

pub returns-in-Some-first_above : goal.returns-in-Some-first_above
returns-in-Some-first_above c =
    let p = picture_of c.args.picture.now in
    let f : ℕ → Option ℕ = neighbour c.args.picture.now.size p c.args.component c.args.block in
    let left : AreMissing f 0 (2 * side c.args.block) = c.in_default.ensures in
    let none : None ≡ f (2 * side c.args.block) = c.in_default-corner.ensures in
    let found : IsFirst f (2 * side c.args.block + 1) (2 * side c.args.block) c.in-Some-first_above.sample = c.in-Some-first_above.ensures in
    let at : ℕ = found.at in
    let within : at < 2 * side c.args.block = found.within in
    sym (first_is c.args.picture.now.size p c.args.component c.args.block (2 * side c.args.block + 1 + at) c.in-Some-first_above.sample (omega arith)
    (missing_up_to f (side c.args.block) at left (sym none) found.before) found.here)

pub returns : goal.returns
returns c =
    let p = picture_of c.args.picture.now in
    let f : ℕ → Option ℕ = neighbour c.args.picture.now.size p c.args.component c.args.block in
    let left : AreMissing f 0 (2 * side c.args.block) = c.in_default.ensures in
    let none : None ≡ f (2 * side c.args.block) = c.in_default-corner.ensures in
    let top : AreMissing f (2 * side c.args.block + 1) (2 * side c.args.block) = c.in_default-first_above.ensures in
    sym (none_is c.args.picture.now.size p c.args.component c.args.block (λ i h. missing_up_to f (side c.args.block) (2 * side c.args.block) left (sym none) top i (omega arith)))
