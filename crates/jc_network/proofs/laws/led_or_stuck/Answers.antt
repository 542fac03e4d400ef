use Rattle.jc_network.proofs.GivenLemmas.{led_or_stuck}
use Rattle.jc_network.proofs.laws.led_or_stuck.Goals as goal

pub returns : goal.returns
returns c = led_or_stuck
