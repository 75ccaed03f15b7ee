-- Bytes as bits, most significant first, and fields of so many bits. A bit is 0 or 1.
use Rattle.std.specs.Prelude.{Bool, true, false, ◌&&◌, List, [], ◌∷◌, ◌++◌, ℕ, zero, suc, ◌+◌, ◌*◌, ◌-◌, ◌/◌, ◌%◌, ◌^◌, eqb, length, get_or, take, drop, replicate}
use Rattle.words.specs.Parts.{part}

-- the n low bits of v
unfoldable pub field : ℕ → ℕ → List ℕ
field zero v = []
field (suc n) v = field n (v / 2) ++ (v % 2 ∷ [])

-- the number that the bits are
unfoldable pub number_of : List ℕ → ℕ
number_of [] = 0
number_of (b ∷ bs) = b * 2 ^ length bs + number_of bs

-- the bits of bytes, eight to a byte
unfoldable pub bits_of : List ℕ → List ℕ
bits_of [] = []
bits_of (x ∷ xs) = field 8 x ++ bits_of xs

-- how many bits are missing to whole bytes when there are n
abbrev pub filling : ℕ → ℕ
filling n = (8 - n % 8) % 8

-- the bits with zeros behind them to the end of the last byte
abbrev pub padded : List ℕ → List ℕ
padded bs = bs ++ replicate (filling (length bs)) 0

-- the first n bytes of bits
unfoldable pub bytes_in : (n : ℕ) → List ℕ → List ℕ
bytes_in zero bs = []
bytes_in (suc n) bs = number_of (take 8 bs) ∷ bytes_in n (drop 8 bs)

-- how many bytes n bits fill
abbrev pub byte_count : ℕ → ℕ
byte_count n = (n + 7) / 8

-- bits packed into bytes; zero bits fill the last byte
abbrev pub as_bytes : List ℕ → List ℕ
as_bytes bs = bytes_in (byte_count (length bs)) (padded bs)

-- fields one behind the other: the first value in the first width's bits, and so on
unfoldable pub fields : (widths values : List ℕ) → List ℕ
fields [] vs = []
fields (n ∷ ns) vs = field n (get_or vs 0 0) ++ fields ns (drop 1 vs)

-- the number in the n bits from bit p on
abbrev pub field_at : List ℕ → (p n : ℕ) → ℕ
field_at bs p n = number_of (part bs p n)

-- the numbers in fields of these widths, from bit p on
unfoldable pub numbers_in : (widths : List ℕ) → List ℕ → (p : ℕ) → List ℕ
numbers_in [] bs p = []
numbers_in (n ∷ ns) bs p = field_at bs p n ∷ numbers_in ns bs (p + n)

-- how many bits fields of these widths have
unfoldable pub total : (widths : List ℕ) → ℕ
total [] = 0
total (n ∷ ns) = n + total ns

-- whether two lists are equal
unfoldable pub equal : (xs ys : List ℕ) → Bool
equal [] [] = true
equal [] (y ∷ ys) = false
equal (x ∷ xs) [] = false
equal (x ∷ xs) (y ∷ ys) = eqb x y && equal xs ys
