use Rattle.std.proofs.Common.{refl}
use Rattle.randomizer.specs.Stages.{next, after, number_of, byte_of, key}
use Rattle.randomizer.proofs.Packets.{length_randomized, get_or_randomized, field_law, round_trip}
use Rattle.randomizer.proofs.Steps.{step_law}
use Rattle.randomizer.proofs.round_trip_stands.Goals as goal

pub returns : goal.returns
unfolding key next after number_of byte_of
returns c = record {
  step = step_law;
  first = (refl, refl, refl, refl);
  field = field_law;
  bytes = λ place bytes. (length_randomized place bytes, get_or_randomized place bytes);
  back = round_trip;
}
