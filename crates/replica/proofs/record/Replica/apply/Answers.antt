-- The payer pays, then the payee is paid, and the slip leaves its line.
use Rattle.replica.proofs.Steps.{applied-is}
use Rattle.replica.proofs.record.Replica.apply.Goals as goal

pub returns : goal.returns
returns c =
    applied-is c.args.self.now c.args.own_at c.args.at c.pay.new.self c.receive.new.self c.remove_first.new.self c.requires.own c.pay.ensures c.receive.ensures c.remove_first.ensures
