-- A part of a row, as the samples of its places.
use Rattle.std.proofs.Common.{◌≡◌, ℕ, ◌+◌, ◌<◌, ◌≤◌, List, length, get_or, map, take, drop, sym, ◌∙◌, rules}
use Rattle.std.proofs.lemmas.List.{places, get_or-take, get_or-drop}
use Rattle.std.proofs.lemmas.List.FromFn.{fill_by_all}
use Rattle.h265_model.specs.Plain.{below}

pub row_is : (plane : List ℕ) (at n : ℕ) (f : ℕ → ℕ) → at + n ≤ length plane → ((i : ℕ) → i < n → f i ≡ get_or plane (at + i) 0) → take n (drop at plane) ≡ map f (below n)
row_is plane at n f long each =
    let read : (k : ℕ) → k < n → get_or (take n (drop at plane)) k 0 ≡ f k = λ k h. get_or-take n (drop at plane) k 0 h ∙ (get_or-drop at plane k 0 ∙ sym (each k h)) in
    let long_row : length (take n (drop at plane)) ≡ n = search (places, rules) in
    fill_by_all f (take n (drop at plane)) n 0 long_row read
