-- A picture's piece from its parts.
use Rattle.std.proofs.Common.{◌≡◌, refl, ◌∙◌, ap, ℕ, Bool, List, [], ◌++◌, length, map}
use Rattle.h265_model.specs.Plain.{joined}
use Rattle.h265_model.specs.Bits.{bytes}
use Rattle.h265_model.specs.NalUnits.{escape, start_code, nal_unit_bytes}
use Rattle.h265_model.specs.SliceHead.{head_bits}
use Rattle.h265_model.specs.Stream.{nal_header, but_last, slice_piece}

pub record Parts (idr : Bool) (poc : ℕ) (rows : List (List ℕ)) (offsets head header before unit body : List ℕ) : Type 0 where
  pub offsets_are : offsets ≡ map length (but_last rows)
  pub head_is : head ≡ bytes (head_bits (record { idr = idr; poc = poc; offsets = offsets }))
  pub header_is : header ≡ nal_header idr
  pub nothing : before ≡ []
  pub unit_is : unit ≡ before ++ nal_unit_bytes (record { header = header; rbsp = head })
  pub body_is : body ≡ joined rows

whole : Bool → ℕ → List (List ℕ) → List ℕ → List ℕ
whole idr poc rows offsets =
    start_code ++ nal_header idr ++ escape (bytes (head_bits (record { idr = idr; poc = poc; offsets = offsets }))) ++ joined rows

unit_of : List ℕ → List ℕ → List ℕ
unit_of header head = nal_unit_bytes (record { header = header; rbsp = head })

parted : (header head body : List ℕ) → unit_of header head ++ body ≡ start_code ++ header ++ escape head ++ body
unfolding unit_of
parted header head body = refl

pub piece_is : (idr : Bool) (poc : ℕ) (rows : List (List ℕ)) (offsets head header before unit body : List ℕ) →
    Parts idr poc rows offsets head header before unit body → unit ++ body ≡ slice_piece idr poc rows
unfolding slice_piece whole unit_of
piece_is idr poc rows offsets head header before unit body p =
    ap (λ l. l ++ body) (p.unit_is ∙ ap (λ l. l ++ unit_of header head) p.nothing)
    ∙ parted header head body
    ∙ ap (λ l. start_code ++ l ++ escape head ++ body) p.header_is
    ∙ ap (λ l. start_code ++ nal_header idr ++ escape head ++ l) p.body_is
    ∙ ap (λ l. start_code ++ nal_header idr ++ escape l ++ joined rows) p.head_is
    ∙ ap (λ l. whole idr poc rows l) p.offsets_are
