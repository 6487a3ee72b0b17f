-- A file behind a sink, and that a file is there once it was made.
use Rattle.std.specs.Prelude.{◌≡◌, ℕ, List, [], Option, Some, None, Ok, cond, unwrap_or, IfSome}
use Rattle.std.proofs.Common.{sym, ◌∙◌, ap}
use Rattle.std.specs.Ordering.{nat_cmp, eq_by_cmp}
use Rattle.std.specs.Cmp.{eq_by_cmp_equiv}
use Rattle.std.specs.Cmp.Lexicographic.{nat_list_cmp_total}
use Rattle.std.specs.FinMap.{get, insert, get-insert}
use Rattle.recorder_model.specs.Files.{Files, file_at, WhereTold}
use Rattle.recorder_model.specs.FileLaws.{file_at-insert}
use Rattle.edges.specs.Shelf.{Creates}

-- where the files are told, this one is there
abbrev pub IsThere : Option Files → List ℕ → Type 0
IsThere told name = IfSome told (λ files. get files name ≡ Some (file_at files name))

pub is_inserted : (x y : Files) (name bytes : List ℕ) → y ≡ insert x name bytes → get y name ≡ Some (file_at y name)
is_inserted x y name bytes p =
    ap (λ m. get m name) p ∙ get-insert nat_list_cmp_total x name bytes name
    ∙ ap (λ b. cond b (Some bytes) (get x name)) ((eq_by_cmp_equiv nat_list_cmp_total).refl name)
    ∙ ap Some (sym (ap (λ m. file_at m name) p ∙ file_at-insert x name bytes))

pub is_made : (a b : Option Files) (name : List ℕ) → WhereTold a b (λ before after. Creates name before after (Ok tt)) → IsThere b name
is_made a None name p = tt
is_made None (Some y) name p = absurd p
is_made (Some x) (Some y) name p = is_inserted x y name [] p
