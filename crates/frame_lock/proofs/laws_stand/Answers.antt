use Rattle.frame_lock.proofs.Turns.{lock_laws}
use Rattle.frame_lock.proofs.laws_stand.Goals as goal

pub returns : goal.returns
returns c = lock_laws
