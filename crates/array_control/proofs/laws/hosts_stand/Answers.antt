use Rattle.array_control.proofs.HostsStand.{others-leave_hosts, told-reported}
use Rattle.array_control.proofs.laws.hosts_stand.Goals as goal

pub returns-clause-others : goal.returns-clause-others
returns-clause-others c = others-leave_hosts

pub returns-clause-told : goal.returns-clause-told
returns-clause-told c = told-reported
