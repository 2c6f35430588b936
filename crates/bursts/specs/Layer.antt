-- What a burst layer means.
use Rattle.std.specs.Prelude.{ℕ, ◌*◌, vec_items}
use Rattle.line.specs.State.{State}
use Rattle.line.specs.Layer.{layered}
use Rattle.bursts.specs.Bursts.{in_bursts}
use Rattle.bursts.specs.declared.BurstLayer.{BurstLayer}

-- the meaning of a burst layer: the lower line's, with the bursts scheduled too
abbrev pub layer_state : {L : Type 0} → (L → State) → BurstLayer L → State
layer_state state b = layered (in_bursts (vec_items b.list)) (state b.lower)

-- the place of the next segment's first symbol
abbrev pub first_place : State → ℕ
first_place s = 832 * s.number
