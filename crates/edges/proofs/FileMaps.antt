-- What a map of text to bytes is as files by name.
use Rattle.std.proofs.Common.{◌≡◌, ℕ, List, [], ◌∷◌, ◌++◌, map, Result, Ok, Err, Bool, true, false, cond, Vec, String, string_bytes, refl, sym, ap, ◌∙◌}
use Rattle.std.specs.Prelude.{Option, Some, None, option_map, unwrap_or, bytes_eq, OnOk, OnErr, IsOkUnless}
use Rattle.std.specs.String.{string_cmp}
use Rattle.std.specs.BTreeMap as tree
use Rattle.std.specs.BTreeMap.{BTreeMap, is_at}
use Rattle.std.specs.Map.{lookup}
use Rattle.std.specs.Ordering.{nat_cmp, is_eq, eq_by_cmp}
use Rattle.std.specs.declared.cmp.Ordering.{Ordering}
use Rattle.std.specs.declared.cmp.Ordering.TheVariants.{Less, Equal, Greater}
use Rattle.std.specs.Cmp.{eq_by_cmp_equiv}
use Rattle.std.specs.Cmp.Lexicographic.{slice_cmp, nat_list_cmp_total}
use Rattle.std.specs.FinMap.{get, insert, empty, find, from_entries, get-insert, get-from_entries, get_tied, same_map, slice_cmp-IsAntisymmetric, nat_cmp-IsAntisymmetric}
use Rattle.std.proofs.lemmas.Map.Text.{btree_map_updates_text, is_eq-slice_cmp}
use Rattle.recorder_model.specs.Files.{Files, file_at}
use Rattle.edges.specs.declared.sink.WriteError.{WriteError}
use Rattle.edges.specs.declared.sink.WriteError.TheVariants as write
use Rattle.edges.specs.Shelf.{AppendsTo}
use Rattle.edges.specs.FileMap.{entry_of, files_of}

map_cond : {X Y : Type 0} (f : X → Y) (b : Bool) (x : X) (o : Option X) (p : Option Y) → p ≡ option_map f o → cond b (Some (f x)) p ≡ option_map f (cond b (Some x) o)
map_cond f true x o p h = refl
map_cond f false x o p h = h

find_entry : {A B : Type 0} (name : List ℕ) (es : List (String A × Vec ℕ B)) →
    find (slice_cmp nat_cmp) name (map entry_of es) ≡ option_map (λ v. v.items) (lookup (is_at (λ k. slice_cmp nat_cmp name (string_bytes k))) es)
find_entry name [] = refl
find_entry {B = B} name (e ∷ es) =
    map_cond (λ (v : Vec ℕ B). v.items) (is_eq (slice_cmp nat_cmp name (string_bytes e.0))) e.1 _ _ (find_entry name es)

pub get-files_of : {A B : Type 0} (m : BTreeMap (String A) (Vec ℕ B)) (name : List ℕ) →
    get (files_of m) name ≡ option_map (λ v. v.items) (tree.get_by_text m name)
unfolding files_of
get-files_of m name = get-from_entries nat_list_cmp_total (map entry_of m.entries) name ∙ find_entry name m.entries

same_test : (name other : List ℕ) → bytes_eq name other ≡ eq_by_cmp (slice_cmp nat_cmp) other name
same_test name other = sym (is_eq-slice_cmp name other) ∙ (eq_by_cmp_equiv nat_list_cmp_total).symm name other

-- after a change at one name
pub files_of-updates : {A B : Type 0} (m n : BTreeMap (String A) (Vec ℕ B)) (name : List ℕ) (bytes : Vec ℕ B) →
    tree.UpdatesBy string_cmp (λ k. slice_cmp nat_cmp name (string_bytes k)) m n (Some bytes) →
    files_of n ≡ insert (files_of m) name bytes.items
files_of-updates {B = B} m n name bytes h =
    same_map nat_list_cmp_total (slice_cmp-IsAntisymmetric nat_cmp-IsAntisymmetric) _ _ (λ q.
    get-files_of n q
    ∙ ap (option_map (λ (v : Vec ℕ B). v.items)) (btree_map_updates_text name m n (Some bytes) h q)
    ∙ sym (map_cond (λ (v : Vec ℕ B). v.items) (bytes_eq name q) bytes (tree.get_by_text m q) (get (files_of m) q) (get-files_of m q))
    ∙ ap (λ b. cond b (Some bytes.items) (get (files_of m) q)) (same_test name q)
    ∙ sym (get-insert nat_list_cmp_total (files_of m) name bytes.items q))

pub files_of-same : {A B : Type 0} (m n : BTreeMap (String A) (Vec ℕ B)) → n.entries ≡ m.entries → files_of n ≡ files_of m
unfolding files_of
files_of-same m n e = ap (λ es. from_entries (map entry_of es)) e

pub files_of-empty : {A B : Type 0} (m : BTreeMap (String A) (Vec ℕ B)) → m.entries ≡ [] → files_of m ≡ empty
unfolding files_of
files_of-empty m e = ap (λ es. from_entries (map entry_of es)) e

-- a file of a shelf over such a map, as a look-up finds it
pub get-shelf : {A B : Type 0} (m : BTreeMap (String A) (Vec ℕ B)) (files : Files) (name : List ℕ) (found : Option (Vec ℕ B)) →
    files_of m ≡ files → found ≡ tree.get_by_text m name → option_map (λ v. v.items) found ≡ get files name
get-shelf {B = B} m files name found view is =
    ap (option_map (λ (v : Vec ℕ B). v.items)) is ∙ sym (get-files_of m name) ∙ ap (λ fs. get fs name) view

-- a file of a shelf over such a map, after bytes were set at its name
pub put-shelf : {A B : Type 0} (m n : BTreeMap (String A) (Vec ℕ B)) (files : Files) (name key bytes : List ℕ) (value : Vec ℕ B) →
    files_of m ≡ files → key ≡ name → value.items ≡ bytes →
    tree.UpdatesBy string_cmp (λ k. slice_cmp nat_cmp key (string_bytes k)) m n (Some value) →
    files_of n ≡ insert files name bytes
put-shelf m n files name key bytes value view named same h =
    files_of-updates m n key value h
    ∙ ap (λ fs. insert fs key value.items) view
    ∙ ap (λ k. insert files k value.items) named
    ∙ ap (insert files name) same

-- a write of what stands there
insert_same : (files : Files) (name bytes : List ℕ) → get files name ≡ Some bytes → insert files name bytes ≡ files
insert_same files name bytes h =
    same_map nat_list_cmp_total (slice_cmp-IsAntisymmetric nat_cmp-IsAntisymmetric) _ _ (λ q.
    get-insert nat_list_cmp_total files name bytes q ∙ stays q (slice_cmp nat_cmp q name) refl)
  where
    stays : (q : List ℕ) (r : Ordering) → slice_cmp nat_cmp q name ≡ r → cond (is_eq r) (Some bytes) (get files q) ≡ get files q
    stays q Less e = refl
    stays q Equal e = sym h ∙ get_tied nat_list_cmp_total files q name e
    stays q Greater e = refl

-- a piece added to a file that is there, or refused
pub append-shelf : {A B : Type 0} (m n : BTreeMap (String A) (Vec ℕ B)) (files : Files) (name piece : List ℕ) (before after : Vec ℕ B) (result : Result (Unit {0}) WriteError) →
    files_of m ≡ files → Some before ≡ tree.get_by_text m name →
    tree.UpdatesBy string_cmp (λ k. slice_cmp nat_cmp name (string_bytes k)) m n (Some after) →
    OnOk result (after.items ≡ before.items ++ piece) → OnErr result (after.items ≡ before.items) → IsOkUnless result write.NoMemory →
    AppendsTo name piece files (files_of n) result
append-shelf m n files name piece before after (Ok done) view is h ok err memory =
    let found = get-shelf m files name (Some before) view is in
    put-shelf m n files name name after.items after view refl refl h
    ∙ ap (insert files name) (ok ∙ ap (λ o. unwrap_or o [] ++ piece) found)
append-shelf m n files name piece before after (Err write.Failed) view is h ok err memory = absurd (cc memory)
append-shelf m n files name piece before after (Err write.NoMemory) view is h ok err memory =
    put-shelf m n files name name before.items after view refl err h
    ∙ insert_same files name before.items (sym (get-shelf m files name (Some before) view is))

-- a file that is not there is empty
pub absent-shelf : {A B : Type 0} (m : BTreeMap (String A) (Vec ℕ B)) (files : Files) (name : List ℕ) →
    files_of m ≡ files → None ≡ tree.get_by_text m name → file_at files name ≡ []
absent-shelf m files name view is = ap (λ o. unwrap_or o []) (sym (get-shelf m files name None view is))
