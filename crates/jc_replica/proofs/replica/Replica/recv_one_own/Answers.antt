use Rattle.jc_replica.proofs.replica.Replica.recv_one_own.Goals as goal

pub returns : goal.returns
returns g c = c.receive.ensures c.args.self.now.number
