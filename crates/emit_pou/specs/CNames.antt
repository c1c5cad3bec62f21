-- The names of the stated C for what a source declares.
use Rattle.std.specs.Prelude.{ℕ, List, ◌++◌, codes}

-- the function that sets a POU's variables, and the one that does its body
abbrev pub init_name : List ℕ → List ℕ
init_name pou = pou ++ codes "_init__"

abbrev pub body_name : List ℕ → List ℕ
body_name pou = pou ++ codes "_body__"

-- the functions that start a resource and that do its share of a scan
abbrev pub start_name : List ℕ → List ℕ
start_name resource = resource ++ codes "_start__"

abbrev pub run_name : List ℕ → List ℕ
run_name resource = resource ++ codes "_run__"

abbrev pub config_init_name : List ℕ
config_init_name = codes "config_init__"

abbrev pub config_run_name : List ℕ
config_run_name = codes "config_run__"

-- the pointer to the running instance, and the tick
abbrev pub self_name : List ℕ
self_name = codes "p__"

abbrev pub tick_name : List ℕ
tick_name = codes "tick__"

-- the locals of a body: whether an arm was picked, what a CASE looks for, and the step and the limit of a FOR
abbrev pub pick_name : List ℕ
pick_name = codes "pick__"

abbrev pub case_name : List ℕ
case_name = codes "case__"

abbrev pub step_name : List ℕ
step_name = codes "step__"

abbrev pub limit_name : List ℕ
limit_name = codes "limit__"
