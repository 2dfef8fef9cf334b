use Rattle.rink_readings.proofs.Nine.{nine}
use Rattle.rink_readings.proofs.rink_readings.Goals as goal

pub returns : goal.returns
returns c = nine
