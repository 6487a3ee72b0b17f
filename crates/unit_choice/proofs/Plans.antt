-- The cheapest of some plans, with moves and a skip among them.
use Rattle.std.proofs.Common.{◌≡◌, refl, sym, ap, ◌∙◌, ℕ, ◌<◌, ◌≤◌, Bool, true, false, List, [], ◌∷◌, ◌++◌, map, arith, inl, inr}
use Rattle.std.specs.Prelude.{Some, None}
use Rattle.std.specs.List.{find, filter}
use Rattle.std.proofs.lemmas.Bool.{le-leb, lt-leb, cases_lt}
use Rattle.h265_model.specs.declared.block.CodingBlock.{CodingBlock}
use Rattle.h265_model.specs.declared.moves.Vector.{Vector}
use Rattle.h265_model.specs.declared.moves.MoveKind.TheVariants as moves
use Rattle.h265_model.specs.MotionChoice.{MovePlan, cheaper, best_of, one_unit, unit_at}

pub cheaper_first : (a b : MovePlan) → a.cost ≤ b.cost → cheaper a b ≡ a
cheaper_first a b h = rw (le-leb a.cost b.cost h) refl

pub cheaper_second : (a b : MovePlan) → b.cost < a.cost → cheaper a b ≡ b
cheaper_second a b h = rw (lt-leb a.cost b.cost h) refl

-- of three plans, whichever two are compared first
assoc : (a b c : MovePlan) → cheaper (cheaper a b) c ≡ cheaper a (cheaper b c)
assoc a b c = elim (cases_lt b.cost a.cost) [
  | inl less ↦ elim (cases_lt c.cost b.cost) [
    | inl least ↦ rw (cheaper_second a b less, cheaper_second b c least) (sym (cheaper_second a c (omega arith)))
    | inr more ↦ rw (cheaper_second a b less, cheaper_first b c more) (sym (cheaper_second a b less))
  ]
  | inr more ↦ elim (cases_lt c.cost b.cost) [
    | inl least ↦ rw (cheaper_first a b more, cheaper_second b c least) refl
    | inr most ↦ rw (cheaper_first a b more, cheaper_first b c most, cheaper_first a b more) (cheaper_first a c (omega arith))
  ]
]

-- the first plan, and the cheapest of the others
pub front : (a : MovePlan) (plans : List MovePlan) (last : MovePlan) → best_of (a ∷ plans) last ≡ cheaper a (best_of plans last)
front a [] last = refl
front a (p ∷ plans) last =
    front (cheaper a p) plans last ∙ (assoc a p (best_of plans last) ∙ ap (λ (b : MovePlan). cheaper a b) (sym (front p plans last)))

-- at most what the last costs
pub most : (plans : List MovePlan) (last : MovePlan) → (best_of plans last).cost ≤ last.cost
most [] last = omega arith
most (p ∷ plans) last =
    let known : (best_of plans last).cost ≤ last.cost = most plans last in
    rw (front p plans last) (elim (cases_lt (best_of plans last).cost p.cost) [
      | inl less ↦ rw (cheaper_second p (best_of plans last) less) known
      | inr more ↦ rw (cheaper_first p (best_of plans last) more) (omega arith)
    ])

-- ---- moves

abbrev pub move : CodingBlock → Vector → MovePlan
move block v = one_unit 16 (unit_at block (moves.Move v))

-- what costs less than a move stays
pub moves_cheap : (block : CodingBlock) (vectors : List Vector) (plans : List MovePlan) (last : MovePlan) → (best_of plans last).cost < 16
    → best_of (map (move block) vectors ++ plans) last ≡ best_of plans last
moves_cheap block [] plans last less = refl
moves_cheap block (v ∷ vectors) plans last less =
    let known : best_of (map (move block) vectors ++ plans) last ≡ best_of plans last = moves_cheap block vectors plans last less in
    front (move block v) (map (move block) vectors ++ plans) last
    ∙ (ap (λ (b : MovePlan). cheaper (move block v) b) known ∙ cheaper_second (move block v) (best_of plans last) less)

pub moves_least : (k : ℕ) (block : CodingBlock) (vectors : List Vector) (plans : List MovePlan) (last : MovePlan) → k ≤ 16 → k ≤ (best_of plans last).cost
    → k ≤ (best_of (map (move block) vectors ++ plans) last).cost
moves_least k block [] plans last few h = h
moves_least k block (v ∷ vectors) plans last few h =
    let others : MovePlan = best_of (map (move block) vectors ++ plans) last in
    let known : k ≤ others.cost = moves_least k block vectors plans last few h in
    rw (front (move block v) (map (move block) vectors ++ plans) last) (elim (cases_lt others.cost 16) [
      | inl less ↦ rw (cheaper_second (move block v) others less) known
      | inr more ↦ rw (cheaper_first (move block v) others more) few
    ])

-- the first move, where nothing costs less
pub moves_win : (block : CodingBlock) (v : Vector) (vectors : List Vector) (plans : List MovePlan) (last : MovePlan) → 16 ≤ (best_of plans last).cost
    → best_of (map (move block) (v ∷ vectors) ++ plans) last ≡ move block v
moves_win block v vectors plans last dear =
    front (move block v) (map (move block) vectors ++ plans) last
    ∙ cheaper_first (move block v) (best_of (map (move block) vectors ++ plans) last) (moves_least 16 block vectors plans last (omega arith) dear)

-- ---- the first that is found, and all that are

filter_no : (test : Vector → Bool) (v : Vector) (list : List Vector) (b : Bool) → test v ≡ b → find test (v ∷ list) ≡ None
    → (find test list ≡ None → filter test list ≡ []) → filter test (v ∷ list) ≡ []
filter_no test v list true e h others = let s : Some v ≡ None = rw e at h in absurd cc
filter_no test v list false e h others = rw e (others (rw e at h))

pub filter_none : (test : Vector → Bool) (list : List Vector) → find test list ≡ None → filter test list ≡ []
filter_none test [] h = refl
filter_none test (v ∷ list) h = filter_no test v list (test v) refl h (filter_none test list)

filter_one : (test : Vector → Bool) (v : Vector) (list : List Vector) (w : Vector) (b : Bool) → test v ≡ b → find test (v ∷ list) ≡ Some w
    → (find test list ≡ Some w → (rest : List Vector) × (filter test list ≡ w ∷ rest)) → (rest : List Vector) × (filter test (v ∷ list) ≡ w ∷ rest)
filter_one test v list w true e h others = let s : Some v ≡ Some w = rw e at h in let same : v ≡ w = cc in (filter test list, rw (e, same) refl)
filter_one test v list w false e h others = let t = others (rw e at h) in (t.0, rw e t.1)

pub filter_some : (test : Vector → Bool) (list : List Vector) (w : Vector) → find test list ≡ Some w → (rest : List Vector) × (filter test list ≡ w ∷ rest)
filter_some test [] w h = absurd cc
filter_some test (v ∷ list) w h = filter_one test v list w (test v) refl h (filter_some test list w)
