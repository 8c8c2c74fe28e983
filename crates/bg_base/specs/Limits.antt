-- The limits of this project, each under one name.
use Rattle.std.specs.Prelude.{ℕ}

-- ---- signatures

-- the most controls
abbrev pub most_controls : ℕ
most_controls = 4096

-- the most ports of a node
abbrev pub most_ports : ℕ
most_ports = 16

-- ---- listings and hosts

-- the most rows of each part of a listing, and the most regions
abbrev pub most_rows : ℕ
most_rows = 65536

-- the most nodes of a host
abbrev pub most_host_nodes : ℕ
most_host_nodes = 65536

-- the most edges of a host
abbrev pub most_host_edges : ℕ
most_host_edges = 65536

-- the largest number that the next node or the next edge of a host may have
abbrev pub largest_counter : ℕ
largest_counter = 2147483648

-- ---- models

-- the most symbols K and U of the grammar that stand above a token
abbrev pub most_levels : ℕ
most_levels = 256

-- the most values of a parameter
abbrev pub most_values : ℕ
most_values = 4096

-- the most rules of a system, and its most predicates
abbrev pub most_rules : ℕ
most_rules = 4096

-- ---- evaluated expressions

-- the most terms of a statement, or of one use of a definition in the block: each symbol A of the grammar counts one, as often
-- as it is evaluated, those of the definitions to which references lead among them; those of a rule's sides and conditions are
-- counted together
abbrev pub most_terms : ℕ
most_terms = 1048576

-- the most symbols K of the grammar that are open at once while an expression is evaluated: one in the expression, and one
-- more behind each `/x`, behind each dot, inside each bracket, and inside each definition to which a reference leads
abbrev pub most_depth : ℕ
most_depth = 1024

-- the most nodes of what an expression comes to
abbrev pub most_expression_nodes : ℕ
most_expression_nodes = 65536

-- its most edges
abbrev pub most_expression_edges : ℕ
most_expression_edges = 65536

-- its most regions, and its most sites
abbrev pub most_expression_places : ℕ
most_expression_places = 65536

-- ---- runs

-- the most steps of a run
abbrev pub most_steps : ℕ
most_steps = 100000
