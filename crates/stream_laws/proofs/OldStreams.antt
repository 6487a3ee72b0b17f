-- A stream without moves, segments and hashes that was decoded before is decoded in the same way.
use Rattle.std.proofs.Common.{◌≡◌, refl, sym, ◌∙◌, ap, ℕ, ◌+◌, ◌-◌, ◌/◌, ◌%◌, List, [], ◌∷◌, ◌++◌, Bool, true, false, cond}
use Rattle.std.specs.Prelude.{Option, Some, None, Result, Ok, Err, ◌==◌, bytes_eq, drop, length, nat_lt}
use Rattle.std.proofs.lemmas.Bool.{cond-true}
use Rattle.h265_model.specs.Plain.{Size, ctus, coded}
use Rattle.h265_model.specs.Bits.{◌>>=◌ as and_then, bits, read_alignment}
use Rattle.h265_model.specs.Bits.{◌>>-◌}
use Rattle.h265_model.specs.NalUnits.{NalUnit}
use Rattle.h265_model.specs.Fields.{Field, U, fixed, golomb, read_field, read_fields, read_trailing, or_number}
use Rattle.h265_model.specs.SliceHead.{Head, head_front, head_middle, read_poc, read_entries, read_head}
use Rattle.h265_model.specs.Stream.{nal_header, slice_kind}
use Rattle.h265_laws.proofs.LeafDecoding.{read_data}
use Rattle.h265_laws.proofs.LeafReading as Tree
use Rattle.h265_model.specs.Decode.{Decoded, ok_of}
use Rattle.h265_laws.proofs.LeafDecoding.{reference_of, read_slice, read_idr, follows, read_trail, read_picture}
use Rattle.h265_model.specs.Tree.{ReadUnit}
use Rattle.h265_model.specs.Slice.{slice_read}
use Rattle.h265_model.specs.Rebuild.{rebuild}
use Rattle.h265_laws.proofs.LeafDecoding as Rebuild
use Rattle.h265_model.specs.Hash.{hash_header}
use Rattle.h265_model.specs.Decode.{Stand, is_next, whole, slice_step, picture_step, hash_step, step}
use Rattle.stream_laws.proofs.OldTree.{units_as}
use Rattle.stream_laws.proofs.OldRows.{all_of, slice_same}
use Rattle.stream_laws.proofs.OldPictures.{rebuild_same}

-- ---- slices

-- the header of an IDR picture has the order count 0
idr_order : (rbsp : List ℕ) (rows : ℕ) (found : Head × ℕ) → read_head rbsp true rows ≡ Ok found → found.0.poc ≡ 0
unfolding read_head
idr_order rbsp rows found h = front (read_fields (head_front true) (bits rbsp)) h
  where
    poc_of : Result (Head × ℕ) ℕ → ℕ
    poc_of (Ok x) = x.0.poc
    poc_of (Err e) = 0

    ended : (entries : List ℕ × List Bool) (r : Result (List Bool) ℕ)
        → (r >>- λ rest. Ok (record { idr = true; poc = 0; offsets = entries.0 }, length rbsp - length rest / 8)) ≡ Ok found → found.0.poc ≡ 0
    ended entries (Err e) g = absurd (cc)
    ended entries (Ok rest) g = sym (ap poc_of g)

    entered : (r : Result (List ℕ × List Bool) ℕ)
        → (r >>- λ entries. or_number 13 (read_alignment entries.1) >>- λ rest. Ok (record { idr = true; poc = 0; offsets = entries.0 }, length rbsp - length rest / 8)) ≡ Ok found
        → found.0.poc ≡ 0
    entered (Err e) g = absurd (cc)
    entered (Ok entries) g = ended entries (or_number 13 (read_alignment entries.1)) g

    middle : (r : Result (List Bool) ℕ)
        → (r >>- λ bs. read_entries (rows - 1) bs >>- λ entries. or_number 13 (read_alignment entries.1) >>- λ rest. Ok (record { idr = true; poc = 0; offsets = entries.0 }, length rbsp - length rest / 8)) ≡ Ok found
        → found.0.poc ≡ 0
    middle (Err e) g = absurd (cc)
    middle (Ok bs) g = entered (read_entries (rows - 1) bs) g

    front : (r : Result (List Bool) ℕ)
        → (r >>- λ bs. read_poc true bs >>- λ poc. read_fields (head_middle true ++ golomb 10 (rows - 1) ∷ []) poc.1 >>- λ bs.
        read_entries (rows - 1) bs >>- λ entries. or_number 13 (read_alignment entries.1) >>- λ rest. Ok (record { idr = true; poc = poc.0; offsets = entries.0 }, length rbsp - length rest / 8)) ≡ Ok found
        → found.0.poc ≡ 0
    front (Err e) g = absurd (cc)
    front (Ok bs) g = middle (read_fields (head_middle true ++ golomb 10 (rows - 1) ∷ []) bs) g

-- a whole picture
abbrev pub now_whole : Decoded → Stand
now_whole now = record { last = Some now; begun = None; ended = true }

ok_is : {A E : Type 0} (r : Result A E) (x : A) → ok_of r ≡ Some x → r ≡ Ok x
ok_is {A = A} {E = E} (Ok y) x h = ap back h
  where
    back : Option A → Result A E
    back None = Ok y
    back (Some z) = Ok z
ok_is (Err e) x h = absurd (cc)

-- what a slice gives, where its order count is the next one
slice_whole : (size : Size) (idr : Bool) (stand : Stand) (before : Option Decoded) (rbsp : List ℕ) (now : Decoded)
    → ((units : List ReadUnit) (poc : ℕ) → whole size stand idr poc units ≡ Some (now_whole (record { poc = poc; planes = rebuild size (reference_of size before) units })))
    → ((found : Head × ℕ) → read_head rbsp idr (ctus size.h) ≡ Ok found → found.0.poc ≡ now.poc → is_next idr stand.last found.0.poc ≡ true)
    → read_slice size idr before rbsp ≡ Some now → slice_step size idr stand rbsp ≡ Some (now_whole now)
unfolding slice_step
slice_whole size idr stand before rbsp now made next h = headed (ok_of (read_head rbsp idr (ctus size.h))) refl h
  where
    planes_of : List Tree.ReadCtu → List (List ℕ)
    planes_of cs = Rebuild.rebuild size (reference_of size before) (all_of cs)

    finish : Head × ℕ → List ReadUnit → Option Stand
    finish head units = cond (is_next idr stand.last head.0.poc) (whole size stand idr head.0.poc units) None

    read_on : (head : Head × ℕ) → read_head rbsp idr (ctus size.h) ≡ Ok head → (o : Option (List Tree.ReadCtu)) → read_data (slice_kind idr) size head.0.offsets (drop head.1 rbsp) ≡ o
        → and_then o (λ cs. Some (record { poc = head.0.poc; planes = planes_of cs })) ≡ Some now
        → and_then (slice_read (slice_kind idr) size head.0.offsets (drop head.1 rbsp)) (finish head) ≡ Some (now_whole now)
    read_on head q None o g = absurd (cc)
    read_on head q (Some cs) o g =
        let poc : head.0.poc ≡ now.poc = ap (λ (x : Option Decoded). poc_in x) g in
        ap (λ x. and_then x (finish head)) (slice_same (slice_kind idr) size head.0.offsets (drop head.1 rbsp) cs o)
        ∙ (cond-true (is_next idr stand.last head.0.poc) _ _ (next head q poc)
        ∙ (made (units_as (all_of cs)) head.0.poc
        ∙ (ap (λ (ps : List (List ℕ)). Some (now_whole (record { poc = head.0.poc; planes = ps }))) (rebuild_same size (reference_of size before) (all_of cs))
        ∙ ap turned g)))
      where
        poc_in : Option Decoded → ℕ
        poc_in None = 0
        poc_in (Some d) = d.poc

        turned : Option Decoded → Option Stand
        turned None = None
        turned (Some d) = Some (now_whole d)

    headed : (o : Option (Head × ℕ)) → ok_of (read_head rbsp idr (ctus size.h)) ≡ o
        → and_then o (λ head. and_then (read_data (slice_kind idr) size head.0.offsets (drop head.1 rbsp)) (λ cs. Some (record { poc = head.0.poc; planes = planes_of cs }))) ≡ Some now
        → and_then o (λ head. and_then (slice_read (slice_kind idr) size head.0.offsets (drop head.1 rbsp)) (finish head)) ≡ Some (now_whole now)
    headed None q g = absurd (cc)
    headed (Some head) q g = read_on head (ok_is (read_head rbsp idr (ctus size.h)) head q) (read_data (slice_kind idr) size head.0.offsets (drop head.1 rbsp)) refl g

idr_same : (size : Size) (stand : Stand) (rbsp : List ℕ) (now : Decoded) → read_slice size true None rbsp ≡ Some now → slice_step size true stand rbsp ≡ Some (now_whole now)
idr_same size stand rbsp now h =
    slice_whole size true stand None rbsp now (λ units poc. refl)
    (λ found q poc. ap (λ (n : ℕ). n == 0) (idr_order rbsp (ctus size.h) found q)) h

trail_same : (size : Size) (stand : Stand) (before : Decoded) (rbsp : List ℕ) (now : Decoded) → stand.last ≡ Some before
    → and_then (read_slice size false (Some before) rbsp) (follows before) ≡ Some now → slice_step size false stand rbsp ≡ Some (now_whole now)
trail_same size stand before rbsp now last h = go (read_slice size false (Some before) rbsp) refl h
  where
    made : (units : List ReadUnit) (poc : ℕ) → whole size stand false poc units ≡ Some (now_whole (record { poc = poc; planes = rebuild size (reference_of size (Some before)) units }))
    made units poc = ap (λ (l : Option Decoded). whole size (record { last = l; begun = stand.begun; ended = stand.ended }) false poc units) last

    checked : (d : Decoded) (b : Bool) → (d.poc == (before.poc + 1) % 256) ≡ b → read_slice size false (Some before) rbsp ≡ Some d → cond b (Some d) None ≡ Some now
        → slice_step size false stand rbsp ≡ Some (now_whole now)
    checked d false q r g = absurd (cc)
    checked d true q r g =
        slice_whole size false stand (Some before) rbsp now made
        (λ found s poc. ap (λ (l : Option Decoded). is_next false l found.0.poc) last ∙ (ap (λ (n : ℕ). n == (before.poc + 1) % 256) (poc ∙ sym (ap (λ (x : Option Decoded). poc_in x) g)) ∙ q))
        (r ∙ g)
      where
        poc_in : Option Decoded → ℕ
        poc_in None = 0
        poc_in (Some e) = e.poc

    go : (o : Option Decoded) → read_slice size false (Some before) rbsp ≡ o → and_then o (follows before) ≡ Some now → slice_step size false stand rbsp ≡ Some (now_whole now)
    go None r g = absurd (cc)
    go (Some d) r g = checked d (d.poc == (before.poc + 1) % 256) refl r g

-- ---- NAL units

pub step_same : (size : Size) (stand : Stand) (unit : NalUnit) (now : Decoded) → read_picture size stand.last unit ≡ Some now → step size false stand unit ≡ Some (now_whole now)
unfolding step
step_same size stand unit now h = go (bytes_eq unit.header (nal_header true)) (bytes_eq unit.header (nal_header false)) h
  where
    other : Option Stand
    other = cond (bytes_eq unit.header hash_header) (hash_step stand unit.rbsp) None

    trail : (l : Option Decoded) → stand.last ≡ l → read_trail size l unit ≡ Some now → slice_step size false stand unit.rbsp ≡ Some (now_whole now)
    trail None q g = absurd (cc)
    trail (Some before) q g = trail_same size stand before unit.rbsp now q g

    go : (a b : Bool) → cond a (read_idr size unit) (cond b (read_trail size stand.last unit) None) ≡ Some now
        → cond a (picture_step size false true stand unit.rbsp) (cond b (picture_step size false false stand unit.rbsp) other) ≡ Some (now_whole now)
    go true b g = idr_same size stand unit.rbsp now g
    go false true g = trail stand.last refl g
    go false false g = absurd (cc)
