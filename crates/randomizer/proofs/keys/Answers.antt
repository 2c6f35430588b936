use Rattle.std.proofs.Common.{◌≡◌, ℕ, ◌*◌, List, take, sym, refl, ◌∙◌, subst, arith}
use Rattle.std.proofs.lemmas.List.{take_all}
use Rattle.randomizer.specs.Stages.{after, keys_from}
use Rattle.randomizer.proofs.Blocks.{block_more, length_block, after_more}
use Rattle.randomizer.proofs.keys.Goals as goal

pub loop-block-init : goal.loop-block-init
unfolding after keys_from
loop-block-init c = (refl, refl, refl)

pub loop-block-preserved : goal.loop-block-preserved
loop-block-preserved c =
    let now = c.loop-block.invariant in
    let keys : List ℕ = c.loop-block.keys in
    let b : ℕ = c.loop-block.block in (
      length_block b keys c.copy_from_slice.new.self c.loop-block-test.true now.0 (omega arith),
      c.eight_steps-state.ensures ∙ after_more b c.loop-block.state c.args.first now.1,
      block_more b c.loop-block.state c.args.first keys c.copy_from_slice.new.self c.loop-block-test.true now.0 now.1 now.2 (c.copy_from_slice.ensures.after ∙ c.eight_keys.ensures),
    )

pub returns : goal.returns
returns c =
    let now = c.loop-block.invariant in
    let n : c.loop-block.block ≡ 24 = omega arith in
    sym (take_all 192 c.loop-block.keys (omega (arith, now.0))) ∙ subst (λ (b : ℕ). take (8 * b) c.loop-block.keys ≡ keys_from (8 * b) c.args.first) n now.2
