-- The rest that a slice pattern binds.
use Rattle.std.proofs.Common.{◌≡◌, ℕ, ◌-◌, ◌<◌, ◌≤◌, List, length, take, drop, arith, length-drop, take_all}

pub tail : (n : ℕ) (l : List ℕ) → take (length l - n) (drop n l) ≡ drop n l
tail n l = take_all (length l - n) (drop n l) (simp length-drop (omega arith))

pub shorter_by : (n : ℕ) (l r : List ℕ) → r ≡ drop n l → 0 < n → n ≤ length l → length r < length l
shorter_by n l r e h k = rw (e, length-drop n l) (omega arith)

pub tail_shorter : (n : ℕ) (l : List ℕ) → 0 < n → n ≤ length l → length (take (length l - n) (drop n l)) < length l
tail_shorter n l h k = shorter_by n l _ (tail n l) h k
