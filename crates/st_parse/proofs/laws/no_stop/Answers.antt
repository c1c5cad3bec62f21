use Rattle.st_parse.proofs.Lacking.{of_statements}
use Rattle.st_parse.proofs.laws.no_stop.Goals as goal

pub returns : goal.returns
returns c w a k = (of_statements k.0).none w a k.1
