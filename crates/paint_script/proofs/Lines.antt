-- Lines by their first words.
use Rattle.std.proofs.Common.{◌≡◌, ℕ, true, false, ◌==◌, ◌&&◌, List, ◌∷◌, ap, Err}
use Rattle.std.specs.Prelude.{codes, bytes_eq}
use Rattle.std.specs.List.{slice_split}
use Rattle.recorder_model.specs.Script.{line_of, words_line, paint_of, fill_of, blit_of, copy_of, cut_of}
use Rattle.recorder_model.specs.declared.refusal.Cause.TheVariants.{UnknownCommand}

pub line_of-words : (version : ℕ) (text first : List ℕ) (others : List (List ℕ)) → slice_split (λ c. c == 32) text ≡ first ∷ others → line_of version text ≡ words_line version (first ∷ others)
unfolding line_of
line_of-words version text first others e = ap (words_line version) e

module _ (version : ℕ) (first : List ℕ) (others : List (List ℕ)) where
  pub words_line-fill : bytes_eq first (codes "fill") ≡ true → words_line version (first ∷ others) ≡ paint_of fill_of others
  words_line-fill e = rw e

  pub words_line-blit : bytes_eq first (codes "fill") ≡ false → bytes_eq first (codes "blit") ≡ true → words_line version (first ∷ others) ≡ paint_of blit_of others
  words_line-blit e f = rw (e, f)

  pub words_line-cut : bytes_eq first (codes "fill") ≡ false → bytes_eq first (codes "blit") ≡ false → bytes_eq first (codes "cut") ≡ true → words_line version (first ∷ others) ≡ cut_of others
  words_line-cut e f g = rw (e, f, g)

  pub words_line-copy : bytes_eq first (codes "fill") ≡ false → bytes_eq first (codes "blit") ≡ false → bytes_eq first (codes "cut") ≡ false → (version == 2 && bytes_eq first (codes "copy")) ≡ true
      → words_line version (first ∷ others) ≡ copy_of others
  words_line-copy e f g h = rw (e, f, g, h)

  pub words_line-other : bytes_eq first (codes "fill") ≡ false → bytes_eq first (codes "blit") ≡ false → bytes_eq first (codes "cut") ≡ false → (version == 2 && bytes_eq first (codes "copy")) ≡ false
      → words_line version (first ∷ others) ≡ Err UnknownCommand
  words_line-other e f g h = rw (e, f, g, h)
