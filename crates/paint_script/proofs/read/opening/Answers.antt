use Rattle.std.proofs.Common.{◌≡◌, ◌∙◌, sym, ap, ℕ, List, ◌++◌}
use Rattle.std.proofs.lemmas.Bool.Decides.{Decides-eqb}
use Rattle.std.proofs.lemmas.Slice.Eq.{strip_prefix_is}
use Rattle.recorder_model.specs.Script.{version_of, script_of, pieces_script}
use Rattle.paint_script.proofs.Readings.{pieces_of, read-version_1, read-version_2}
use Rattle.paint_script.proofs.read.opening.Goals as goal

with_line : (c : goal.In-Some) → (2 ≡ version_of c.args.bytes.now) × (script_of c.args.bytes.now ≡ pieces_script 2 2 (pieces_of c.in-Some.rest.now))
with_line c =
    let told = strip_prefix_is Decides-eqb c.args.bytes.now c.as_slice.result.now c.strip_prefix.result c.strip_prefix.ensures.cases in
    let cut : c.args.bytes.now ≡ c.as_slice.result.now ++ c.in-Some.rest.now = rw c.in-Some.is at told in
    read-version_2 c.args.bytes.now c.in-Some.rest.now (cut ∙ ap (λ (l : List ℕ). l ++ c.in-Some.rest.now) c.as_slice.ensures)

without_line : (c : goal.In-None) → (1 ≡ version_of c.args.bytes.now) × (script_of c.args.bytes.now ≡ pieces_script 1 1 (pieces_of c.args.bytes.now))
without_line c =
    let told = strip_prefix_is Decides-eqb c.args.bytes.now c.as_slice.result.now c.strip_prefix.result c.strip_prefix.ensures.cases in
    let other : (rest : List ℕ) → c.args.bytes.now ≡ c.as_slice.result.now ++ rest → ⊥ = rw c.in-None.is at told in
    read-version_1 c.args.bytes.now (λ rest e. other rest (e ∙ ap (λ (l : List ℕ). l ++ rest) (sym c.as_slice.ensures)))

pub returns-in-Some-clause-version : goal.returns-in-Some-clause-version
returns-in-Some-clause-version c = (with_line c).0

pub returns-in-Some-clause-rest : goal.returns-in-Some-clause-rest
returns-in-Some-clause-rest c = (with_line c).1

pub returns-in-None-clause-version : goal.returns-in-None-clause-version
returns-in-None-clause-version c = (without_line c).0

pub returns-in-None-clause-rest : goal.returns-in-None-clause-rest
returns-in-None-clause-rest c = (without_line c).1
