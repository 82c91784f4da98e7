-- The ids of notebooks and cells (this project).
use Rattle.std.specs.Prelude.{ℕ, List, Bool, length, nat_le, ◌==◌, ◌&&◌, ◌||◌}
use Rattle.std.specs.List.{list_all}

-- from low to high, both among them
abbrev pub is_between : ℕ → ℕ → ℕ → Bool
is_between low high b = nat_le low b && nat_le b high

-- an ASCII letter, an ASCII digit, `_` or `-`
abbrev pub is_cell_byte : ℕ → Bool
is_cell_byte b = is_between 65 90 b || is_between 97 122 b || is_between 48 57 b || b == 95 || b == 45

-- one of these, `@`, `/` or `.`
abbrev pub is_notebook_byte : ℕ → Bool
is_notebook_byte b = is_cell_byte b || b == 64 || b == 47 || b == 46

-- 1 to 100 of them
abbrev pub is_cell_id : List ℕ → Bool
is_cell_id id = nat_le 1 (length id) && nat_le (length id) 100 && list_all is_cell_byte id

abbrev pub is_notebook_id : List ℕ → Bool
is_notebook_id id = nat_le 1 (length id) && nat_le (length id) 100 && list_all is_notebook_byte id
