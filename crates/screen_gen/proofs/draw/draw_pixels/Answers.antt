use Rattle.std.proofs.Common.{sym, ◌∙◌, ap, refl, ◌++◌, ◌∷◌, [], ℕ}
use Rattle.rand_xoshiro.specs.SplitMix64.{mix_u64}
use Rattle.h265_model.specs.declared.rgb.Rgb.{Rgb}
use Rattle.screen_gen.specs.Generated.{colours, state_after, colour_of}
use Rattle.screen_gen.proofs.Drawing.{state_more, colours_more}
use Rattle.screen_gen.proofs.draw.draw_pixels.Goals as goal

pub loop-init : goal.loop-init
unfolding colours state_after
loop-init c = (c.in_ok-pixels.ensures.items, refl)

pub loop-preserved : goal.loop-preserved
loop-preserved c =
    let s = c.args.random.now in
    let n = c.loop.counter in
    let before = c.loop.invariant in
    let word = ap (λ (p : ℕ × ℕ). p.0) c.next_word.ensures ∙ ap (λ (r : ℕ). (mix_u64 r).0) before.1 in
    let next = ap (λ (p : ℕ × ℕ). p.1) c.next_word.ensures ∙ ap (λ (r : ℕ). (mix_u64 r).1) before.1 in (
      c.in_ok-push.ensures.items
          ∙ ap (λ l. l ++ c.colour.result ∷ []) before.0
          ∙ ap (λ (k : Rgb). colours s n ++ k ∷ []) (c.colour.ensures.value ∙ ap colour_of word)
          ∙ sym (colours_more s n),
      next ∙ sym (state_more s n),
    )
