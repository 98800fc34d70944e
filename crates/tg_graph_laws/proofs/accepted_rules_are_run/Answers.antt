use Rattle.tg_graph_laws.proofs.RunLaws.{accepted_lead, accepted_are_named, accepted_run}
use Rattle.tg_graph_laws.proofs.accepted_rules_are_run.Goals as goal

pub returns : goal.returns
returns c = record { lead = accepted_lead; named = accepted_are_named; run = accepted_run }
