-- Document 01, "Calls and their numbers", and Paper 6: how many numbers the buffers of a set have. Definitions only.
use Rattle.std.specs.Prelude.{ℕ, ◌+◌, ◌*◌}

-- "the frame (186 numbers, 62 rows of three)"
abbrev pub FRAME_ROWS : ℕ
FRAME_ROWS = 62

abbrev pub FRAME : ℕ
FRAME = FRAME_ROWS * 3

-- "the face store (210, 30 slots of 7)": a mark, and "six .. coordinates follow"
abbrev pub FACE_SLOTS : ℕ
FACE_SLOTS = 30

abbrev pub FACE_COORDINATES : ℕ
FACE_COORDINATES = 6

abbrev pub FACE_WIDTH : ℕ
FACE_WIDTH = 1 + FACE_COORDINATES

abbrev pub FACE_STORE : ℕ
FACE_STORE = FACE_SLOTS * FACE_WIDTH

-- Paper 6: "A sphere slot shall have 13 numbers: mark, nine coordinates, then b × c. The store is 3,120 numbers"
abbrev pub SPHERE_SLOTS : ℕ
SPHERE_SLOTS = 240

abbrev pub SPHERE_COORDINATES : ℕ
SPHERE_COORDINATES = 9

-- where b × c starts in a slot
abbrev pub SPHERE_CROSS : ℕ
SPHERE_CROSS = 1 + SPHERE_COORDINATES

abbrev pub SPHERE_WIDTH : ℕ
SPHERE_WIDTH = SPHERE_CROSS + 3

abbrev pub SPHERE_STORE : ℕ
SPHERE_STORE = SPHERE_SLOTS * SPHERE_WIDTH
