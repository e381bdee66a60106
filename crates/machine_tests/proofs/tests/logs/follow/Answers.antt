use Rattle.machine_tests.proofs.RoomyPlaces.{stays_roomy}
use Rattle.machine_tests.proofs.tests.logs.follow.Goals as goal

pub returns : goal.returns
returns c = stays_roomy c.args.changed.now c.follow.new.self c.follow.ensures.room c.requires
