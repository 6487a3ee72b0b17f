-- Contents of units, read part by part.
use Rattle.std.proofs.Common.{◌≡◌, sym, ◌∙◌, ap, ℕ, ◌+◌, Some, None, Option, List}
use Rattle.h265_model.specs.Engine.{Engine, samples}
use Rattle.h265_model.specs.Tree.{Content, Samples, thirds, pcm_read}
use Rattle.residual_read.proofs.Steps.{then_some, then_none}

abbrev pcm_then : ℕ → List ℕ × Engine → Option (Content × Engine)
pcm_then n found = Some (Samples (thirds n found.0), found.1)

pub pcm_none : (n m : ℕ) (e : Engine) → m ≡ n + n + n → samples m e ≡ None → pcm_read n e ≡ None
pcm_none n m e is h = then_none (samples (n + n + n) e) (pcm_then n) (ap (λ k. samples k e) (sym is) ∙ h)

pub pcm_some : (n m : ℕ) (list : List ℕ) (e d : Engine) → m ≡ n + n + n → samples m e ≡ Some (list, d) → pcm_read n e ≡ Some (Samples (thirds n list), d)
pcm_some n m list e d is h = then_some (samples (n + n + n) e) (list, d) (pcm_then n) (ap (λ k. samples k e) (sym is) ∙ h)
