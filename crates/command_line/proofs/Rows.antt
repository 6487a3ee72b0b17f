-- The row of words, by their first word.
use Rattle.std.proofs.Common.{◌≡◌, ℕ, true, false, List, [], ◌∷◌, length, refl, arith}
use Rattle.std.specs.Prelude.{Option, None, bytes_eq, codes}
use Rattle.std.specs.Borrow.{Bor}
use Rattle.h265_model.specs.declared.extra.Extra.TheVariants.{Plain}
use Rattle.command_line.specs.Words.{Row, row_of, record_words, serial_words, demo_words, decode_words, hash_words, segments_words, moves_words}
use Rattle.command_line.specs.Views.{texts}

pub no_words : (all : List (Bor (List ℕ))) → length all ≡ 0 → None ≡ row_of (texts all)
unfolding row_of
no_words [] e = refl
no_words (command ∷ words) e = absurd (omega arith)

-- words behind their first one
module _ (all words : List (Bor (List ℕ))) (command : Bor (List ℕ)) (e : all ≡ command ∷ words) where
  abbrev Is : List ℕ → Type 0
  Is name = bytes_eq command.now name ≡ true

  abbrev IsNot : List ℕ → Type 0
  IsNot name = bytes_eq command.now name ≡ false

  pub of_record : (row : Option Row) → Is (codes "record") → row ≡ record_words Plain (texts words) → row ≡ row_of (texts all)
  unfolding row_of
  of_record row first r = rw (e, first) r

  pub of_serial : (row : Option Row) → IsNot (codes "record") → Is (codes "serial") → row ≡ serial_words Plain (texts words) → row ≡ row_of (texts all)
  unfolding row_of
  of_serial row first second r = rw (e, first, second) r

  pub of_demo : (row : Option Row) → IsNot (codes "record") → IsNot (codes "serial") → Is (codes "demo") → row ≡ demo_words (texts words) → row ≡ row_of (texts all)
  unfolding row_of
  of_demo row first second third r = rw (e, first, second, third) r

  pub of_decode : (row : Option Row) → IsNot (codes "record") → IsNot (codes "serial") → IsNot (codes "demo") → Is (codes "decode") →
      row ≡ decode_words (texts words) → row ≡ row_of (texts all)
  unfolding row_of
  of_decode row first second third fourth r = rw (e, first, second, third, fourth) r

  pub of_hash : (row : Option Row) → IsNot (codes "record") → IsNot (codes "serial") → IsNot (codes "demo") → IsNot (codes "decode") → Is (codes "hash") →
      row ≡ hash_words (texts words) → row ≡ row_of (texts all)
  unfolding row_of
  of_hash row first second third fourth fifth r = rw (e, first, second, third, fourth, fifth) r

  pub of_segments : (row : Option Row) → IsNot (codes "record") → IsNot (codes "serial") → IsNot (codes "demo") → IsNot (codes "decode") → IsNot (codes "hash") →
      Is (codes "segments") → row ≡ segments_words (texts words) → row ≡ row_of (texts all)
  unfolding row_of
  of_segments row first second third fourth fifth sixth r = rw (e, first, second, third, fourth, fifth, sixth) r

  pub of_moves : (row : Option Row) → IsNot (codes "record") → IsNot (codes "serial") → IsNot (codes "demo") → IsNot (codes "decode") → IsNot (codes "hash") →
      IsNot (codes "segments") → Is (codes "moves") → row ≡ moves_words (texts words) → row ≡ row_of (texts all)
  unfolding row_of
  of_moves row first second third fourth fifth sixth seventh r = rw (e, first, second, third, fourth, fifth, sixth, seventh) r

  pub of_none : IsNot (codes "record") → IsNot (codes "serial") → IsNot (codes "demo") → IsNot (codes "decode") → IsNot (codes "hash") → IsNot (codes "segments") →
      IsNot (codes "moves") → None ≡ row_of (texts all)
  unfolding row_of
  of_none first second third fourth fifth sixth seventh = rw (e, first, second, third, fourth, fifth, sixth, seventh) refl
