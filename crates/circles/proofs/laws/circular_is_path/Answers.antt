use Rattle.circles.proofs.Paths.{path_of_circular, circular_of_path}
use Rattle.circles.proofs.laws.circular_is_path.Goals as goal

pub returns : goal.returns
returns c = λ g a. (path_of_circular g a, circular_of_path g a)
