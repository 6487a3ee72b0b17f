use Rattle.std.proofs.Common.{◌≡◌, ℕ, ◌+◌, ◌*◌, ◌/◌, ◌%◌, List, [], ◌++◌, ap, sym, ◌∙◌, append_assoc}
use Rattle.std.proofs.lemmas.List.{append-nil}
use Rattle.h265_model.specs.Plain.{place_values}
use Rattle.px_plane.specs.Planes.{picture_of}
use Rattle.desk_surface.proofs.samples.append_tile.Goals as goal

three : (old p q r : List ℕ) → ((old ++ p) ++ q) ++ r ≡ old ++ (p ++ (q ++ (r ++ [])))
three old p q r = append_assoc (old ++ p) q r ∙ (append_assoc old p (q ++ r) ∙ ap (λ l. old ++ (p ++ (q ++ l))) (sym (append-nil r)))

pub returns : goal.returns
returns c =
    let plane : ℕ → ℕ → List ℕ = λ across component. place_values 32 32 (λ i j. picture_of c.args.picture.now component (c.args.tile % across * 32 + i) (c.args.tile / across * 32 + j)) in
    let across : ℕ = c.args.across in
    let old : List ℕ = c.args.out.now.items in
    let first : c.append_plane.new.out.items ≡ old ++ plane across 0 = c.in_ok-append_plane.ensures in
    let second : c.append_plane-2.new.out.items ≡ c.append_plane.new.out.items ++ plane across 1 = c.in_ok-append_plane-2.ensures in
    let third : c.append_plane-3.new.out.items ≡ c.append_plane-2.new.out.items ++ plane across 2 = c.in_ok-append_plane-3.ensures in
    third
    ∙ (ap (λ l. l ++ plane across 2) (second ∙ ap (λ l. l ++ plane across 1) first)
    ∙ (three old (plane across 0) (plane across 1) (plane across 2) ∙ ap (λ (n : ℕ). old ++ (plane n 0 ++ (plane n 1 ++ (plane n 2 ++ [])))) c.requires.across))
