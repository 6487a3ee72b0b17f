use Rattle.std.proofs.Common.{◌≡◌, ℕ, ◌+◌, ◌*◌, ◌-◌, ◌/◌, ◌%◌, ◌≤◌, ◌||◌, Bool, true, false, List, length, get_or, replicate, take, drop, sym, ap, subst, ◌∙◌, arith, rules, mod-lt}
use Rattle.std.proofs.lemmas.List.{places, length-replicate}
use Rattle.std.proofs.lemmas.Nat.{mul-le, div-add-mod'}
use borrow.Rule.Slice.PartMut.{put_mid}
use Rattle.desk_surface.specs.Damage.{is_between}
use Rattle.desk_surface.proofs.RaisedRows.{flag_at}
use Rattle.desk_surface.proofs.flags.raise_between.Goals as goal

pub loop-row-preserved : goal.loop-row-preserved
loop-row-preserved c =
    let across : ℕ = c.args.across in
    let n : ℕ = c.args.right - c.args.left in
    let j : ℕ = c.loop-row.row in
    let at : ℕ = j * across + c.args.left in
    let columns = c.requires.columns in
    let rows : (j + 1) * across ≤ c.args.bottom * across = mul-le (j + 1) across c.args.bottom across (omega arith) (omega arith) in
    let tall : (j + 1) * across ≤ length c.loop-row.flags = let w = c.requires.whole in let l = c.loop-row.invariant.long in omega arith in
    let width : j * across + c.args.right - at ≡ n = omega arith in
    let long : length (take n (drop at c.loop-row.flags)) ≡ n = search (places, rules) in
    let e : c.fill.new.self ≡ replicate n true = c.fill.ensures.after (λ v h. h) ∙ ap (λ (k : ℕ). replicate k true) (rw width long) in
    let marks : List Bool = replicate n true in
    let marks_long : length marks ≡ n = length-replicate n true in
    rw (width, e) record {
      long = kept c.loop-row.flags marks at n (omega arith) marks_long ∙ c.loop-row.invariant.long;
      raised = λ t less.
          let split : t / across * across + t % across ≡ t = div-add-mod' t across in
          subst (λ (k : ℕ). get_or (put_mid at n c.loop-row.flags marks) k false ≡ (get_or c.args.flags.now k false || is_between c.args.left c.args.right c.args.top (j + 1) (t % across) (t / across)))
          split
          (flag_at c.args.flags.now c.loop-row.flags across c.args.left c.args.right c.args.top j (c.requires.some) columns.0 columns.1 (omega arith) tall (t % across) (t / across) (mod-lt t c.requires.some)
          (subst (λ (k : ℕ). get_or c.loop-row.flags k false ≡ (get_or c.args.flags.now k false || is_between c.args.left c.args.right c.args.top j (t % across) (t / across))) (sym split) (c.loop-row.invariant.raised t less)));
    }
  where
    kept : (xs ys : List Bool) (a k : ℕ) → a + k ≤ length xs → length ys ≡ k → length (put_mid a k xs ys) ≡ length xs
    kept xs ys a k le long = grind (arith, places)
