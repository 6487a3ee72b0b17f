-- Vectors, read part by part.
use Rattle.std.proofs.Common.{◌≡◌, refl, sym, ◌∙◌, ap, ℕ, Bool, Some, None, Option}
use Rattle.std.specs.Prelude.{ℤ, pos, ◌+ℤ◌, ◌*ℤ◌}
use Rattle.h265_model.specs.declared.moves.Vector.{Vector}
use Rattle.h265_model.specs.Bits.{◌>>=◌ as and_then}
use Rattle.h265_model.specs.Engine.{Engine, context_read}
use Rattle.h265_model.specs.Motion.{vector, greater1_if, part_read, difference_read, vector_read, whole_part, whole_vector, predictor, low_16, signed_16, quarter, or_refuse}
use Rattle.cabac_dec.specs.State.{Answers}
use Rattle.residual_read.proofs.Steps.{then_some, then_none}
use Rattle.unit_read.specs.Vectors.{both_of, whole_of}

abbrev y_then : ℤ → ℤ × Engine → Option (Vector × Engine)
y_then x found = Some (vector x found.0, found.1)

abbrev x_then : Bool → Bool → ℤ × Engine → Option (Vector × Engine)
x_then y0 y1 found = and_then (part_read y0 y1 found.1) (y_then found.0)

abbrev y1_then : Bool → Bool → Bool → Bool × Engine → Option (Vector × Engine)
y1_then x0 y0 x1 found = and_then (part_read x0 x1 found.1) (x_then y0 found.0)

abbrev x1_then : Bool → Bool → Bool × Engine → Option (Vector × Engine)
x1_then x0 y0 found = and_then (greater1_if y0 found.1) (y1_then x0 y0 found.0)

abbrev y0_then : Bool → Bool × Engine → Option (Vector × Engine)
y0_then x0 found = and_then (greater1_if x0 found.1) (x1_then x0 found.0)

abbrev x0_then : Bool × Engine → Option (Vector × Engine)
x0_then found = and_then (context_read 127 found.1) (y0_then found.0)

difference_open : (e : Engine) → difference_read e ≡ and_then (context_read 127 e) x0_then
unfolding difference_read
difference_open e = refl

pub x0_none : (e : Engine) → context_read 127 e ≡ None → difference_read e ≡ None
x0_none e h = difference_open e ∙ then_none (context_read 127 e) x0_then h

past_x0 : (x0 : Bool) (e d : Engine) → context_read 127 e ≡ Some (x0, d) → difference_read e ≡ and_then (context_read 127 d) (y0_then x0)
past_x0 x0 e d h = difference_open e ∙ then_some (context_read 127 e) (x0, d) x0_then h

pub y0_none : (x0 : Bool) (e d : Engine) → context_read 127 e ≡ Some (x0, d) → context_read 127 d ≡ None → difference_read e ≡ None
y0_none x0 e d h i = past_x0 x0 e d h ∙ then_none (context_read 127 d) (y0_then x0) i

past_y0 : (x0 y0 : Bool) (e d f : Engine) → context_read 127 e ≡ Some (x0, d) → context_read 127 d ≡ Some (y0, f) → difference_read e ≡ and_then (greater1_if x0 f) (x1_then x0 y0)
past_y0 x0 y0 e d f h i = past_x0 x0 e d h ∙ then_some (context_read 127 d) (y0, f) (y0_then x0) i

pub x1_none : (x0 y0 : Bool) (e d f : Engine) → context_read 127 e ≡ Some (x0, d) → context_read 127 d ≡ Some (y0, f) → greater1_if x0 f ≡ None → difference_read e ≡ None
x1_none x0 y0 e d f h i j = past_y0 x0 y0 e d f h i ∙ then_none (greater1_if x0 f) (x1_then x0 y0) j

past_x1 : (x0 y0 x1 : Bool) (e d f g : Engine) → context_read 127 e ≡ Some (x0, d) → context_read 127 d ≡ Some (y0, f) → greater1_if x0 f ≡ Some (x1, g) → difference_read e ≡ and_then (greater1_if y0 g) (y1_then x0 y0 x1)
past_x1 x0 y0 x1 e d f g h i j = past_y0 x0 y0 e d f h i ∙ then_some (greater1_if x0 f) (x1, g) (x1_then x0 y0) j

pub y1_none : (x0 y0 x1 : Bool) (e d f g : Engine) → context_read 127 e ≡ Some (x0, d) → context_read 127 d ≡ Some (y0, f) → greater1_if x0 f ≡ Some (x1, g) → greater1_if y0 g ≡ None → difference_read e ≡ None
y1_none x0 y0 x1 e d f g h i j k = past_x1 x0 y0 x1 e d f g h i j ∙ then_none (greater1_if y0 g) (y1_then x0 y0 x1) k

past_y1 : (x0 y0 x1 y1 : Bool) (e d f g k : Engine) → context_read 127 e ≡ Some (x0, d) → context_read 127 d ≡ Some (y0, f) → greater1_if x0 f ≡ Some (x1, g) → greater1_if y0 g ≡ Some (y1, k)
    → difference_read e ≡ and_then (part_read x0 x1 k) (x_then y0 y1)
past_y1 x0 y0 x1 y1 e d f g k h i j l = past_x1 x0 y0 x1 e d f g h i j ∙ then_some (greater1_if y0 g) (y1, k) (y1_then x0 y0 x1) l

pub x_none : (x0 y0 x1 y1 : Bool) (e d f g k : Engine) → context_read 127 e ≡ Some (x0, d) → context_read 127 d ≡ Some (y0, f) → greater1_if x0 f ≡ Some (x1, g) → greater1_if y0 g ≡ Some (y1, k)
    → part_read x0 x1 k ≡ None → difference_read e ≡ None
x_none x0 y0 x1 y1 e d f g k h i j l m = past_y1 x0 y0 x1 y1 e d f g k h i j l ∙ then_none (part_read x0 x1 k) (x_then y0 y1) m

past_x : (x0 y0 x1 y1 : Bool) (x : ℤ) (e d f g k l : Engine) → context_read 127 e ≡ Some (x0, d) → context_read 127 d ≡ Some (y0, f) → greater1_if x0 f ≡ Some (x1, g) → greater1_if y0 g ≡ Some (y1, k)
    → part_read x0 x1 k ≡ Some (x, l) → difference_read e ≡ and_then (part_read y0 y1 l) (y_then x)
past_x x0 y0 x1 y1 x e d f g k l h i j m n = past_y1 x0 y0 x1 y1 e d f g k h i j m ∙ then_some (part_read x0 x1 k) (x, l) (x_then y0 y1) n

pub y_none : (x0 y0 x1 y1 : Bool) (x : ℤ) (e d f g k l : Engine) → context_read 127 e ≡ Some (x0, d) → context_read 127 d ≡ Some (y0, f) → greater1_if x0 f ≡ Some (x1, g) → greater1_if y0 g ≡ Some (y1, k)
    → part_read x0 x1 k ≡ Some (x, l) → part_read y0 y1 l ≡ None → difference_read e ≡ None
y_none x0 y0 x1 y1 x e d f g k l h i j m n o = past_x x0 y0 x1 y1 x e d f g k l h i j m n ∙ then_none (part_read y0 y1 l) (y_then x) o

pub difference_all : (x0 y0 x1 y1 : Bool) (x y : ℤ) (e d f g k l m : Engine) → context_read 127 e ≡ Some (x0, d) → context_read 127 d ≡ Some (y0, f) → greater1_if x0 f ≡ Some (x1, g) → greater1_if y0 g ≡ Some (y1, k)
    → part_read x0 x1 k ≡ Some (x, l) → part_read y0 y1 l ≡ Some (y, m) → difference_read e ≡ Some (vector x y, m)
difference_all x0 y0 x1 y1 x y e d f g k l m h i j n o p = past_x x0 y0 x1 y1 x e d f g k l h i j n o ∙ then_some (part_read y0 y1 l) (y, m) (y_then x) p

-- ---- the vector

pub whole_is : (p d : ℤ) (low : ℕ) (r : Option ℤ) → low ≡ low_16 (pos 4 *ℤ p +ℤ d) → r ≡ quarter (signed_16 low) → r ≡ whole_part p d
unfolding whole_part
whole_is p d low r h i = i ∙ ap (λ (n : ℕ). quarter (signed_16 n)) h

abbrev with_engine : Engine → Option Vector → Option (Vector × Engine)
with_engine e None = None
with_engine e (Some v) = Some (v, e)

both_read : (x y : Option ℤ) (e : Engine) → and_then (or_refuse x e) (λ x. and_then (or_refuse y x.1) (λ y. Some (vector x.0 y.0, y.1))) ≡ with_engine e (both_of x y)
both_read None y e = refl
both_read (Some x) None e = refl
both_read (Some x) (Some y) e = refl

whole_read : (p d : Vector) (e : Engine) → whole_vector p d e ≡ with_engine e (whole_of p d)
whole_read p d e = both_read (whole_part p.x d.x) (whole_part p.y d.y) e

as_answer : (r : Option Vector) (read : Option (Vector × Engine)) (e : Engine) → read ≡ with_engine e r → Answers r read e
as_answer None read e h = h
as_answer (Some v) read e h = h

abbrev second_then : Vector × Vector → Vector → Bool × Engine → Option (Vector × Engine)
second_then both d found = whole_vector (predictor found.0 both) d found.1

abbrev difference_then : Vector × Vector → Vector × Engine → Option (Vector × Engine)
difference_then both found = and_then (context_read 126 found.1) (second_then both found.0)

vector_open : (both : Vector × Vector) (e : Engine) → vector_read both e ≡ and_then (difference_read e) (difference_then both)
unfolding vector_read
vector_open both e = refl

pub vector_none : (both : Vector × Vector) (e : Engine) → difference_read e ≡ None → vector_read both e ≡ None
vector_none both e h = vector_open both e ∙ then_none (difference_read e) (difference_then both) h

pub second_none : (both : Vector × Vector) (v : Vector) (e d : Engine) → difference_read e ≡ Some (v, d) → context_read 126 d ≡ None → vector_read both e ≡ None
second_none both v e d h i = vector_open both e ∙ then_some (difference_read e) (v, d) (difference_then both) h ∙ then_none (context_read 126 d) (second_then both v) i

pub vector_all : (both : Vector × Vector) (v p : Vector) (second : Bool) (r : Option Vector) (e d f : Engine) → difference_read e ≡ Some (v, d) → context_read 126 d ≡ Some (second, f) → p ≡ predictor second both → r ≡ whole_of p v
    → Answers r (vector_read both e) f
vector_all both v p second r e d f h i j k =
    as_answer r (vector_read both e) f (vector_open both e ∙ then_some (difference_read e) (v, d) (difference_then both) h ∙ then_some (context_read 126 d) (second, f) (second_then both v) i
    ∙ whole_read (predictor second both) v f ∙ ap (with_engine f) (ap (λ (q : Vector). whole_of q v) (sym j) ∙ sym k))

pub as_read : (x y v w : ℤ) (read : Option (Vector × Engine)) (e : Engine) → v ≡ x → w ≡ y → read ≡ Some (vector x y, e) → read ≡ Some (vector v w, e)
as_read x y v w read e h i j = rw (h, i) j

pub sum_as : (p d q e sum : ℤ) → q ≡ p → e ≡ d → sum ≡ pos 4 *ℤ q +ℤ e → sum ≡ pos 4 *ℤ p +ℤ d
sum_as p d q e sum h i j = j ∙ ap (λ (v : ℤ). pos 4 *ℤ v +ℤ e) h ∙ ap (λ (v : ℤ). pos 4 *ℤ p +ℤ v) i
