use Rattle.std.proofs.Common.{◌≡◌, ◌∷◌, [], ◌++◌, ◌+◌, ◌<◌, ◌^◌, true, not, length, arith, ap, sym, subst, ◌∙◌, is_ok}
use Rattle.std.proofs.lemmas.Bool.{cond-true}
use Rattle.std.proofs.lemmas.List.{length-map}
use Rattle.paint_script.specs.Spellable.{IsOfVersion}
use Rattle.paint_script.specs.Scripts.{Script, line_at, lines_at}
use Rattle.paint_script.proofs.Stored.{lines_at-paint, IsStored-paint, is_cut-paint}
use Rattle.paint_script.proofs.script.Script.add.Goals as goal

-- both pushes went through
pub invariant_of-self-else-is_err : goal.invariant_of-self-else-is_err
invariant_of-self-else-is_err c =
    let places = c.self.inside.places.items in
    let paints = c.self.inside.paints.items in
    let line = c.args.line in
    let pushed : is_ok c.push-3.result ≡ true = c.is_err.ensures.negation ∙ ap not c.if-is_err.false in
    let new_paints : c.push-3.new.self.items ≡ paints ++ line ∷ [] = c.push-3.ensures.items ∙ cond-true (is_ok c.push-3.result) (paints ++ line ∷ []) paints pushed in
    let count : c.len.result + 1 ≡ length paints + 1 = omega (arith, c.self.inside.paints.ok.0) in
    let new_places : c.push-2.new.self.items ≡ places ++ (length paints + 1) ∷ [] = c.in_ok-push-2.ensures.items ∙ ap (λ n. places ++ n ∷ []) count in
    let viewed : lines_at paints places ≡ c.args.self.now.lines = ap (λ (s : Script). s.lines) c.self.view_is in
    let room : length places + 1 < 2 ^ 32 = omega (arith, ap length viewed, length-map places (line_at paints)) in
    let fits : IsOfVersion c.self.inside.version line = subst (λ (s : Script). IsOfVersion s.version line) (sym c.self.view_is) c.requires.version in
    rw (new_paints, new_places) (IsStored-paint c.self.inside.version paints places c.self.inside.cut line room c.requires.spellable fits (is_cut-paint line c.in_default.not-Cut) c.self.invariant)

pub returns : goal.returns
returns c =
    let places = c.self.inside.places.items in
    let paints = c.self.inside.paints.items in
    let line = c.args.line in
    let pushed : is_ok c.push-3.result ≡ true = c.is_err.ensures.negation ∙ ap not c.if-is_err.false in
    let new_paints : c.push-3.new.self.items ≡ paints ++ line ∷ [] = c.push-3.ensures.items ∙ cond-true (is_ok c.push-3.result) (paints ++ line ∷ []) paints pushed in
    let count : c.len.result + 1 ≡ length paints + 1 = omega (arith, c.self.inside.paints.ok.0) in
    let new_places : c.push-2.new.self.items ≡ places ++ (length paints + 1) ∷ [] = c.in_ok-push-2.ensures.items ∙ ap (λ n. places ++ n ∷ []) count in
    let viewed : lines_at paints places ≡ c.args.self.now.lines = ap (λ (s : Script). s.lines) c.self.view_is in
    let grown : lines_at c.push-3.new.self.items c.push-2.new.self.items ≡ c.args.self.now.lines ++ line ∷ [] =
    ap (λ ls. lines_at ls c.push-2.new.self.items) new_paints ∙ ap (lines_at (paints ++ line ∷ [])) new_places
    ∙ lines_at-paint paints line places c.self.invariant.within ∙ ap (λ ls. ls ++ line ∷ []) viewed in
    record { added = (λ i. record { version = (c.self.view_is i).version; lines = grown i }); unchanged = tt }
