use Rattle.std.proofs.Common.{◌≡◌, ◌∙◌, ap}
use Rattle.std.specs.Prelude.{None, option_map}
use Rattle.h265_model.specs.Tree.{coded_first}
use Rattle.px_plane.specs.Planes.{picture_of}
use Rattle.picture_encoder.specs.Planning.{reference_of_task}
use Rattle.row_moves.specs.Moves.{all_units}
use Rattle.row_moves.proofs.Units.{after_picture, alone}
use Rattle.row_moves.proofs.plan.plan_ctu.Goals as goal

pub returns-in-Some-clause-chosen : goal.returns-in-Some-clause-chosen
returns-in-Some-clause-chosen g c =
    after_picture c.args.task.now c.args.ctu (picture_of c.in-Some.before.now) c.deref.result.now c.plan_moves.result (ap (option_map (λ p. picture_of p.now)) c.in-Some.is) c.deref.ensures c.requires.ctu
    (c.plan_moves.ensures.planned (coded_first (all_units c.args.task.now) c.args.ctu) c.requires.coded)

pub returns-in-None-clause-chosen : goal.returns-in-None-clause-chosen
returns-in-None-clause-chosen g c =
    let none : reference_of_task c.args.task.now ≡ None = ap (option_map (λ p. picture_of p.now)) c.in-None.is in
    let is : c.as_slice.result.now ≡ c.plan_unit-leaves.result.items = c.as_slice.ensures.value in
    (alone c.args.task.now c.args.ctu c.as_slice.result.now c.still_units.result none c.requires.ctu (is ∙ c.plan_unit-leaves.ensures.choice) c.still_units.ensures).chosen

pub returns-in-None-clause-tree : goal.returns-in-None-clause-tree
returns-in-None-clause-tree g c =
    let none : reference_of_task c.args.task.now ≡ None = ap (option_map (λ p. picture_of p.now)) c.in-None.is in
    let is : c.as_slice.result.now ≡ c.plan_unit-leaves.result.items = c.as_slice.ensures.value in
    (alone c.args.task.now c.args.ctu c.as_slice.result.now c.still_units.result none c.requires.ctu (is ∙ c.plan_unit-leaves.ensures.choice) c.still_units.ensures).tree

pub returns-in-None-clause-allowed : goal.returns-in-None-clause-allowed
returns-in-None-clause-allowed g c =
    let none : reference_of_task c.args.task.now ≡ None = ap (option_map (λ p. picture_of p.now)) c.in-None.is in
    let is : c.as_slice.result.now ≡ c.plan_unit-leaves.result.items = c.as_slice.ensures.value in
    (alone c.args.task.now c.args.ctu c.as_slice.result.now c.still_units.result none c.requires.ctu (is ∙ c.plan_unit-leaves.ensures.choice) c.still_units.ensures).allowed
