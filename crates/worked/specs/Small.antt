-- The small net: two handsets share one channel. A handset takes the channel and sends, then gives it back.
use Rattle.std.specs.Prelude.{ℕ, List, [], ◌∷◌, ◌++◌, take, drop, slice_set}

-- its 86 bytes, command by command
abbrev pub small : List ℕ
small =
    -- sort 1, the handsets 0 and 1; sort 2, the channel
    0x01 ∷ 0x02
    ∷ 0x01 ∷ 0x01
    -- places 0, quiet; 1, sending; 2, channel free
    ∷ 0x04 ∷ 0x01
    ∷ 0x04 ∷ 0x01
    ∷ 0x04 ∷ 0x02
    -- at first both handsets are quiet, and the channel is free
    ∷ 0x05 ∷ 0x00 ∷ 0x00 ∷ 0x00 ∷ 0x01
    ∷ 0x05 ∷ 0x00 ∷ 0x01 ∷ 0x00 ∷ 0x01
    ∷ 0x05 ∷ 0x02 ∷ 0x00 ∷ 0x00 ∷ 0x01
    -- transition 0, for a handset: from quiet and channel free to sending
    ∷ 0x06 ∷ 0x01 ∷ 0x01 ∷ 0x00 ∷ 0x00 ∷ 0x00
    ∷ 0x08 ∷ 0x00 ∷ 0x31 ∷ 0x20 ∷ 0x00
    ∷ 0x08 ∷ 0x02 ∷ 0x31 ∷ 0x21 ∷ 0x02 ∷ 0x00
    ∷ 0x09 ∷ 0x01 ∷ 0x31 ∷ 0x20 ∷ 0x00
    -- transition 1, for a handset: from sending to quiet and channel free
    ∷ 0x06 ∷ 0x01 ∷ 0x01 ∷ 0x00 ∷ 0x00 ∷ 0x00
    ∷ 0x08 ∷ 0x01 ∷ 0x31 ∷ 0x20 ∷ 0x00
    ∷ 0x09 ∷ 0x00 ∷ 0x31 ∷ 0x20 ∷ 0x00
    ∷ 0x09 ∷ 0x02 ∷ 0x31 ∷ 0x21 ∷ 0x02 ∷ 0x00
    -- claim 0, equal: as many sending handsets and free channels together as at first
    ∷ 0x0A ∷ 0x01 ∷ 0x00 ∷ 0x00
    ∷ 0x0B ∷ 0x01 ∷ 0x00 ∷ 0x00 ∷ 0x00 ∷ 0x01
    ∷ 0x0B ∷ 0x02 ∷ 0x00 ∷ 0x00 ∷ 0x00 ∷ 0x01
    ∷ 0x0F ∷ []

-- the small net with another byte at a place
abbrev pub with_byte : ℕ → ℕ → List ℕ
with_byte place byte = slice_set small place byte

-- the small net without its last out-arc: the channel is never given back
abbrev pub lossy : List ℕ
lossy = take 63 small ++ drop 69 small

-- that net with a claim of another kind and modulus (below 256)
abbrev pub lossy_of_kind : ℕ → ℕ → List ℕ
lossy_of_kind kind modulus = slice_set (slice_set lossy 64 kind) 66 modulus
