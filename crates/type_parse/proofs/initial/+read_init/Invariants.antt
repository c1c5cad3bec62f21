use Rattle.type_parse.proofs.initial.+read_init.Given as goal

abbrev pub decreases-read_init : goal.decreases-read_init
decreases-read_init l = l.room
