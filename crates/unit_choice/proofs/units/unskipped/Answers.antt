use Rattle.std.proofs.Common.{sym, ◌≤◌, arith}
use Rattle.px_plane.specs.Planes.{picture_of}
use Rattle.unit_choice.proofs.Winners.{coded_plan, cheap_wins, move_wins, still_wins, coded_most, leaf_there}
use Rattle.unit_choice.proofs.units.unskipped.Goals as goal

pub returns-in-Some-clause-planned : goal.returns-in-Some-clause-planned
returns-in-Some-clause-planned c =
    let s = c.args.vectors.now in
    let e = rw c.current-current.ensures at c.in-Some.ensures in
    cheap_wins (picture_of s.last) (picture_of s.current) s.current.size c.args.effort c.args.block c.in-Some.cheap c.still.result.cost c.still.result.unit
    e.0 e.1 c.still.ensures.cost c.still.ensures.unit

pub returns-in-Some-first_copy-clause-planned : goal.returns-in-Some-first_copy-clause-planned
returns-in-Some-first_copy-clause-planned c =
    let s = c.args.vectors.now in
    move_wins (picture_of s.last) (picture_of s.current) s.current.size c.args.effort c.args.block c.in-Some-first_copy.vector
    (sym c.in-Some-first_copy.ensures.first) (rw c.current-current.ensures at c.in_default.ensures)

pub unwrap-requires : goal.unwrap-requires
unwrap-requires c =
    let s = c.args.vectors.now in
    leaf_there c.coded_leaf-2.result c.args.block (coded_plan (picture_of s.current) s.current.size c.args.effort c.args.block)
    (coded_most (picture_of s.current) s.current.size c.args.effort c.args.block (omega arith) (omega arith)) (rw c.current-current.ensures at c.coded_leaf-2.ensures)

pub returns-clause-planned : goal.returns-clause-planned
returns-clause-planned c =
    let s = c.args.vectors.now in
    let e = rw (c.unwrap.ensures, c.current-current.ensures) at c.coded_leaf-2.ensures in
    still_wins (picture_of s.last) (picture_of s.current) s.current.size c.args.effort c.args.block c.unwrap.result c.still-2.result.cost c.still-2.result.unit
    (sym c.in_default-first_copy.ensures.first) e.1 c.still-2.ensures.cost c.still-2.ensures.unit

pub returns-clause-most : goal.returns-clause-most
returns-clause-most c =
    let s = c.args.vectors.now in
    let e = rw (c.unwrap.ensures, c.current-current.ensures) at c.coded_leaf-2.ensures in
    let m : (coded_plan (picture_of s.current) s.current.size c.args.effort c.args.block).cost ≤ 24600 = coded_most (picture_of s.current) s.current.size c.args.effort c.args.block (omega arith) (omega arith) in
    let b : c.unwrap.result.cost ≤ 24600 = rw e.1 at m in
    rw c.still-2.ensures.cost b
