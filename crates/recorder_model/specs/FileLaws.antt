-- Laws of files: what is read after a write, a write over a write, and what is told over two calls.
use Rattle.std.specs.Prelude.{◌≡◌, ℕ, ◌≤◌, Bool, true, false, cond, List, [], Option, Some, None, unwrap_or, option_map, refl}
use Rattle.std.proofs.Common.{sym, ◌∙◌, ap, arith}
use Rattle.std.specs.Ordering.{nat_cmp, eq_by_cmp}
use Rattle.std.specs.Cmp.{eq_by_cmp_equiv}
use Rattle.std.specs.Cmp.Lexicographic.{slice_cmp, nat_list_cmp_total}
use Rattle.std.specs.FinMap.{get, insert, remove, get-insert, get-remove, same_map, slice_cmp-IsAntisymmetric, nat_cmp-IsAntisymmetric}
use Rattle.recorder_model.specs.Files.{Files, file_at, WhereTold, Rose}

pub file_at-insert : (files : Files) (name bytes : List ℕ) → file_at (insert files name bytes) name ≡ bytes
file_at-insert files name bytes =
    ap (λ o. unwrap_or o []) (get-insert nat_list_cmp_total files name bytes name
    ∙ ap (λ b. cond b (Some bytes) (get files name)) ((eq_by_cmp_equiv nat_list_cmp_total).refl name))

cond_again : {A : Type 0} (b : Bool) (x y z : A) → cond b y (cond b x z) ≡ cond b y z
cond_again true x y z = refl
cond_again false x y z = refl

pub insert_again : (files : Files) (name first second : List ℕ) → insert (insert files name first) name second ≡ insert files name second
insert_again files name first second =
    same_map nat_list_cmp_total (slice_cmp-IsAntisymmetric nat_cmp-IsAntisymmetric) _ _ (λ q.
    get-insert nat_list_cmp_total (insert files name first) name second q
    ∙ ap (cond (eq_by_cmp (slice_cmp nat_cmp) q name) (Some second)) (get-insert nat_list_cmp_total files name first q)
    ∙ cond_again (eq_by_cmp (slice_cmp nat_cmp) q name) (Some first) (Some second) (get files q)
    ∙ sym (get-insert nat_list_cmp_total files name second q))

-- two calls
pub told_on : {A : Type 0} (a b c : Option A) (P Q R : A → A → Type 0) →
    WhereTold a b P → WhereTold b c Q → ((x y z : A) → P x y → Q y z → R x z) → WhereTold a c R
told_on a b None P Q R p q f = tt
told_on a None (Some z) P Q R p q f = absurd q
told_on None (Some y) (Some z) P Q R p q f = absurd p
told_on (Some x) (Some y) (Some z) P Q R p q f = f x y z p q

pub told_same : {A : Type 0} (a : Option A) (P : A → A → Type 0) → ((x : A) → P x x) → WhereTold a a P
told_same None P f = tt
told_same (Some x) P f = f x

pub Rose_on : (a b c : ℕ) → a ≤ b → Rose b c → Rose a c
Rose_on a b c h r = omega arith

-- what is told of a part of it
pub told_map : {A B : Type 0} (a b : Option A) (f : A → B) (P : A → A → Type 0) (Q : B → B → Type 0) →
    WhereTold a b P → ((x y : A) → P x y → Q (f x) (f y)) → WhereTold (option_map f a) (option_map f b) Q
told_map a None f P Q p h = tt
told_map None (Some y) f P Q p h = absurd p
told_map (Some x) (Some y) f P Q p h = h x y p

cond_none : {A : Type 0} (b : Bool) (x y z : A) → cond b x (cond b y z) ≡ cond b x z
cond_none true x y z = refl
cond_none false x y z = refl

pub remove-insert : (files : Files) (name bytes : List ℕ) → remove (insert files name bytes) name ≡ remove files name
remove-insert files name bytes =
    same_map nat_list_cmp_total (slice_cmp-IsAntisymmetric nat_cmp-IsAntisymmetric) _ _ (λ q.
    get-remove nat_list_cmp_total (insert files name bytes) name q
    ∙ ap (cond (eq_by_cmp (slice_cmp nat_cmp) q name) None) (get-insert nat_list_cmp_total files name bytes q)
    ∙ cond_none (eq_by_cmp (slice_cmp nat_cmp) q name) None (Some bytes) (get files q)
    ∙ sym (get-remove nat_list_cmp_total files name q))
