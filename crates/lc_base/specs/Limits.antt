-- How large and how many the parts of a text may be, and what crates side by side share.
use Rattle.std.specs.Prelude.{ℕ}

-- the most bytes of a file
abbrev pub file_limit : ℕ
file_limit = 16777216

-- how deep lists may be nested
abbrev pub depth_limit : ℕ
depth_limit = 1000

-- the most bytes of a name
abbrev pub name_limit : ℕ
name_limit = 64

-- the most columns of a file, without those of the system
abbrev pub column_limit : ℕ
column_limit = 64

-- the most columns of an array
abbrev pub width_limit : ℕ
width_limit = 4

-- the most operations
abbrev pub operation_limit : ℕ
operation_limit = 16

-- the most arguments of an operation
abbrev pub argument_limit : ℕ
argument_limit = 3

-- the most numbers that an operation returns
abbrev pub reply_limit : ℕ
reply_limit = 3

-- the most parameters of a choice, and of an action
abbrev pub parameter_limit : ℕ
parameter_limit = 3

-- the most locals of a body
abbrev pub local_limit : ℕ
local_limit = 16

-- the most points of all bodies together
abbrev pub point_limit : ℕ
point_limit = 256

-- the most actions
abbrev pub action_limit : ℕ
action_limit = 64

-- the most riders of an edge
abbrev pub rider_limit : ℕ
rider_limit = 6

-- the most paths past the riders of an edge
abbrev pub path_limit : ℕ
path_limit = 64

-- the most conditions of a development
abbrev pub condition_limit : ℕ
condition_limit = 100000

-- the most clients of a run, each with a seat
abbrev pub seat_limit : ℕ
seat_limit = 64
