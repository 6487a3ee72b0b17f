use Rattle.std.proofs.Common.{◌≡◌, ℕ, ◌+◌, ◌-◌, ◌*◌, ◌/◌, ◌%◌, ◌≤◌, ◌<◌, length, take, drop, Bool, List, Option, Some, None, option_map, sym, ◌∙◌, ap, subst, arith}
use Rattle.h265_model.specs.Bits.{read_u, bits, value}
use Rattle.bit_string.specs.Parts.{Cursor, moved_to}
use Rattle.bit_string.proofs.Windows.{read_u-past, read_u-within, window_value, moved, long_left}
use Rattle.bit_string.proofs.reader.BitReader.bits.Goals as goal

abbrev first : Option (ℕ × List Bool) → Option ℕ
first r = option_map (λ found. found.0) r

abbrev second : Option (ℕ × List Bool) → Option (List Bool)
second r = option_map (λ found. found.1) r

pub returns-then-self-count-clause-value : goal.returns-then-self-count-clause-value
returns-then-self-count-clause-value c =
    let r = c.self.inside in
    let P : Cursor → Type 0 = λ k. None ≡ first (read_u c.args.n k.left) in
    let past : 8 * length r.bytes.now - (8 * r.index + r.bit) < c.args.n = omega arith in
    subst P c.self.view_is (ap first (sym (read_u-past r.bytes.now (8 * r.index + r.bit) c.args.n past)))

pub returns-then-self-count-clause-after : goal.returns-then-self-count-clause-after
returns-then-self-count-clause-after c =
    let r = c.self.inside in
    let P : Cursor → Type 0 = λ k. k ≡ moved_to (second (read_u c.args.n k.left)) k in
    let past : 8 * length r.bytes.now - (8 * r.index + r.bit) < c.args.n = omega arith in
    let k : Cursor = record { left = drop (8 * r.index + r.bit) (bits r.bytes.now); place = 8 * r.index + r.bit } in
    subst P c.self.view_is (ap (λ f. moved_to (second f) k) (sym (read_u-past r.bytes.now (8 * r.index + r.bit) c.args.n past)))

pub returns-clause-value : goal.returns-clause-value
returns-clause-value c =
    let r = c.self.inside in
    let place = 8 * r.index + r.bit in
    let count = c.div_ceil-count.result in
    let n = c.args.n in
    let v = c.word_of-word.result in
    let within : n ≤ 8 * length r.bytes.now - place = omega arith in
    let part : r.index + count - r.index ≡ count = omega arith in
    let word = c.word_of-word.ensures ∙ ap (λ m. value (bits (take m (drop r.index r.bytes.now)))) part in
    let P : Cursor → Type 0 = λ k. Some (value (take n (drop place (bits r.bytes.now)))) ≡ first (read_u n k.left) in
    ap Some (window_value r.bytes.now r.index r.bit count n (8 * count - (r.bit + n)) v (omega arith) (omega arith) c.requires word)
    ∙ subst P c.self.view_is (ap first (sym (read_u-within r.bytes.now place n within)))

pub returns-clause-after : goal.returns-clause-after
returns-clause-after c =
    let r = c.self.inside in
    let place = 8 * r.index + r.bit in
    let n = c.args.n in
    let after = 8 * (r.index + (r.bit + n) / 8) + (r.bit + n) % 8 in
    let within : n ≤ 8 * length r.bytes.now - place = omega arith in
    let P : Cursor → Type 0 = λ k. record { left = drop after (bits r.bytes.now); place = after } ≡ moved_to (second (read_u n k.left)) k in
    let k : Cursor = record { left = drop place (bits r.bytes.now); place = place } in
    subst P c.self.view_is (moved r.bytes.now place n after (omega arith) (omega arith) ∙ ap (λ f. moved_to (second f) k) (sym (read_u-within r.bytes.now place n within)))

pub returns-clause-total : goal.returns-clause-total
returns-clause-total c =
    let r = c.self.inside in
    let place = 8 * r.index + r.bit in
    let after = 8 * (r.index + (r.bit + c.args.n) / 8) + (r.bit + c.args.n) % 8 in
    let P : Cursor → Type 0 = λ k. after + length (drop after (bits r.bytes.now)) ≡ k.place + length k.left in
    subst P c.self.view_is (omega (arith, long_left r.bytes.now after, long_left r.bytes.now place))
