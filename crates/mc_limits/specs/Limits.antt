-- How much of each a program, a run, a file or a matrix has at most. The cells of an object have
-- their limit beside the types of objects.
use Rattle.std.specs.Prelude.{ℕ}

-- conditions of a decision
abbrev pub most_conditions : ℕ
most_conditions = 64

-- path numbers of a decision
abbrev pub most_paths : ℕ
most_paths = 4096

-- bits of a program: one for each entry, exit, statement and label, and for each path number of
-- each decision
abbrev pub most_bits : ℕ
most_bits = 65536

-- parameters of a function
abbrev pub most_parameters : ℕ
most_parameters = 16

-- arrays and structures inside one another, in the type of an object
abbrev pub most_nesting : ℕ
most_nesting = 200

-- cells of an activation: the scalars of its objects
abbrev pub most_frame_cells : ℕ
most_frame_cells = 65536

-- cells of all objects with static storage duration
abbrev pub most_static_cells : ℕ
most_static_cells = 65536

-- cells of all open activations of a run
abbrev pub most_run_cells : ℕ
most_run_cells = 65536

-- levels of all open activations of a run
abbrev pub most_levels : ℕ
most_levels = 512

-- numbers that a run gives to its output
abbrev pub most_run_outputs : ℕ
most_run_outputs = 4096

-- tests of a file
abbrev pub most_tests : ℕ
most_tests = 4096

-- calls of a test
abbrev pub most_calls : ℕ
most_calls = 1024

-- inputs of a test
abbrev pub most_inputs : ℕ
most_inputs = 4096

-- outputs that a test expects
abbrev pub most_expected : ℕ
most_expected = 4096

-- units of fuel of a test
abbrev pub most_fuel : ℕ
most_fuel = 100000000

-- units of fuel of a test, where the command names none
abbrev pub usual_fuel : ℕ
usual_fuel = 1000000

-- bytes of a source
abbrev pub most_source_bytes : ℕ
most_source_bytes = 1048576

-- bytes of a file of tests
abbrev pub most_tests_bytes : ℕ
most_tests_bytes = 4194304

-- bytes of a file of justifications
abbrev pub most_justification_bytes : ℕ
most_justification_bytes = 1048576

-- entries of a file of justifications
abbrev pub most_justifications : ℕ
most_justifications = 4096

-- bytes of a record
abbrev pub most_record_bytes : ℕ
most_record_bytes = 33554432

-- functions of a source that the program makes itself
abbrev pub most_functions : ℕ
most_functions = 200

-- words, of 64 bits each, of a matrix of coverage
abbrev pub most_words : ℕ
most_words = 1048576

-- mutants of a program
abbrev pub most_mutants : ℕ
most_mutants = 4096

-- looks at the shared words while the tests run
abbrev pub most_looks : ℕ
most_looks = 100

-- levels of a tree that is read from a source
abbrev pub most_height : ℕ
most_height = 200

-- levels of a tree that is read from an instrumented text, whose probes bring brackets
abbrev pub most_instrumented_height : ℕ
most_instrumented_height = 800

-- workers that share a matrix of coverage
abbrev pub most_workers : ℕ
most_workers = 64
