use Rattle.c_meaning.proofs.FuelLaws as fuel
use Rattle.c_meaning.proofs.laws.fuel_never_grows.Goals as goal

pub returns-clause-of_statement : goal.returns-clause-of_statement
returns-clause-of_statement c = fuel.exec_spends

pub returns-clause-of_body : goal.returns-clause-of_body
returns-clause-of_body c = fuel.body_spends

pub returns-clause-of_call : goal.returns-clause-of_call
returns-clause-of_call c = fuel.call_spends

pub returns-clause-of_start : goal.returns-clause-of_start
returns-clause-of_start c = fuel.start_spends

pub returns-clause-of_scan : goal.returns-clause-of_scan
returns-clause-of_scan c = fuel.scan_spends
