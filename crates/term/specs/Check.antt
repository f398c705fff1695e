-- The check of terms and bags in a file, byte by byte: the first byte that fails names the fault.
-- `ends` is the length of the file, so the byte k of what is left, bs, stands at ends - length bs + k.
use Rattle.std.specs.Prelude.{ℕ, zero, suc, ◌+◌, ◌-◌, Bool, true, false, cond, ◌&&◌, List, length, drop, Ok, Err, Result, ◌==◌, nat_le, nat_lt, slice_index}
use Rattle.std.specs.Borrow.{Bor}
use Rattle.term.specs.declared.check.Head.{Head}
use Rattle.term.specs.declared.fault.Fault.{Fault}
use Rattle.term.specs.declared.fault.Fault.TheVariants as fault
use Rattle.term.specs.declared.fault.FileFault.{FileFault}
use Rattle.term.specs.declared.fault.Stage.TheVariants as stage
use Rattle.term.specs.declared.signature.Arguments.{Arguments}
use Rattle.term.specs.declared.signature.Arguments.TheVariants as arguments
use Rattle.term.specs.Meaning.{Sig, bag_operation, operation, size}

-- the front of a term: the sorts of the parts that follow, and what is left; or a fault
pub data Front : Type 0 where
  front : Arguments → List ℕ → Front
  none : FileFault → Front

-- what follows a term or a bag, or a fault
pub data Checked : Type 0 where
  done : List ℕ → Checked
  bad : FileFault → Checked

abbrev pub front_of : Result Head FileFault → Front
front_of (Ok h) = front h.parts h.rest.now
front_of (Err e) = none e

abbrev pub checked : Result (Bor (List ℕ)) FileFault → Checked
checked (Ok r) = done r.now
checked (Err e) = bad e

abbrev pub in_term : Fault → ℕ → FileFault
in_term f p = record { fault = f; place = p; stage = stage.Term }

-- where the byte k of what is left stands in the file
abbrev pub spot : List ℕ → ℕ → ℕ → ℕ
spot bs ends k = ends - length bs + k

abbrev pub byte : List ℕ → ℕ → ℕ → (ℕ → Front) → Front
byte bs ends i k = cond (nat_lt i (length bs)) (k (slice_index bs i)) (none (in_term fault.Ends ends))

abbrev pub test : Bool → Fault → ℕ → Front → Front
test ok f p r = cond ok r (none (in_term f p))

abbrev pub variable_at : List ℕ → ℕ → List ℕ → ℕ → Front
variable_at vars want bs ends =
    byte bs ends 1 (λ v. test (nat_lt v (length vars)) fault.Range (spot bs ends 1)
    (test (slice_index vars v == want) fault.Sort (spot bs ends 1) (front arguments.None (drop 2 bs))))

abbrev pub constant_at : Sig → ℕ → List ℕ → ℕ → Front
constant_at s want bs ends =
    byte bs ends 1 (λ t. test (nat_lt t (length s.sizes)) fault.Range (spot bs ends 1)
    (test (t == want) fault.Sort (spot bs ends 1)
    (byte bs ends 2 (λ e. test (nat_lt e (size s t)) fault.Range (spot bs ends 2) (front arguments.None (drop 3 bs))))))

abbrev pub application_at : Sig → ℕ → List ℕ → ℕ → Front
application_at s want bs ends =
    byte bs ends 1 (λ o. test (nat_lt o (length s.operations)) fault.Range (spot bs ends 1)
    (test ((operation s o).result == want) fault.Sort (spot bs ends 1) (front (operation s o).arguments (drop 2 bs))))

abbrev pub equality_at : Sig → ℕ → List ℕ → ℕ → Front
equality_at s want bs ends =
    test (want == 0) fault.Sort (spot bs ends 0)
    (byte bs ends 1 (λ t. test (nat_lt t (length s.sizes)) fault.Range (spot bs ends 1) (front (arguments.Two t t) (drop 2 bs))))

abbrev pub logic_at : Arguments → ℕ → List ℕ → ℕ → Front
logic_at a want bs ends = test (want == 0) fault.Sort (spot bs ends 0) (front a (drop 1 bs))

abbrev pub head_at : Sig → List ℕ → Bool → ℕ → List ℕ → ℕ → Front
head_at s vars deep want bs ends =
    byte bs ends 0 (λ c. test (nat_le 0x20 c && nat_le c 0x25) fault.NoCommand (spot bs ends 0)
    (cond deep (none (in_term fault.Deep (spot bs ends 0)))
    (cond (c == 0x20) (variable_at vars want bs ends)
    (cond (c == 0x21) (constant_at s want bs ends)
    (cond (c == 0x22) (application_at s want bs ends)
    (cond (c == 0x23) (equality_at s want bs ends)
    (cond (c == 0x24) (logic_at (arguments.One 0) want bs ends) (logic_at (arguments.Two 0 0) want bs ends))))))))

-- one check, then another on what follows
abbrev pub then : Checked → (List ℕ → Checked) → Checked
then (done r) k = k r
then (bad e) k = bad e

-- the parts that a front asks for, each by t
abbrev pub parts : (ℕ → List ℕ → Checked) → Front → Checked
parts t (none e) = bad e
parts t (front arguments.None r) = done r
parts t (front (arguments.One a) r) = t a r
parts t (front (arguments.Two a b) r) = then (t a r) (t b)
parts t (front (arguments.More a b) r) = then (t a r) (t b)

-- a term of sort want, of at most the given depth; at depth 0 the front is a fault, so that no part is asked for
abbrev pub check_term : Sig → List ℕ → ℕ → ℕ → ℕ → List ℕ → Checked
check_term s vars ends zero want bs = parts (λ t r. done r) (head_at s vars true want bs ends)
check_term s vars ends (suc d) want bs = parts (check_term s vars ends d) (head_at s vars false want bs ends)

-- a byte of a bag, or the fault that the file ends
abbrev pub bag_byte : List ℕ → ℕ → ℕ → (ℕ → Checked) → Checked
bag_byte bs ends i k = cond (nat_lt i (length bs)) (k (slice_index bs i)) (bad (in_term fault.Ends ends))

abbrev pub bag_test : Bool → Fault → ℕ → Checked → Checked
bag_test ok f p r = cond ok r (bad (in_term f p))

abbrev pub flexible_at : Sig → (ℕ → List ℕ → Checked) → ℕ → List ℕ → ℕ → Checked
flexible_at s t want bs ends =
    bag_byte bs ends 1 (λ k. bag_test (nat_lt k (length s.bags)) fault.Range (spot bs ends 1)
    (bag_test ((bag_operation s k).result == want) fault.Sort (spot bs ends 1) (t (bag_operation s k).argument (drop 2 bs))))

-- a bag over the sort want, its terms checked by t and its bags by b
abbrev pub bag_front : Sig → (ℕ → List ℕ → Checked) → (List ℕ → Checked) → Bool → ℕ → List ℕ → ℕ → Checked
bag_front s t b deep want bs ends =
    bag_byte bs ends 0 (λ c. bag_test (nat_le 0x30 c && nat_le c 0x33) fault.NoCommand (spot bs ends 0)
    (cond deep (bad (in_term fault.Deep (spot bs ends 0)))
    (cond (c == 0x30) (done (drop 1 bs))
    (cond (c == 0x31) (t want (drop 1 bs))
    (cond (c == 0x32) (then (b (drop 1 bs)) b) (flexible_at s t want bs ends))))))

-- a bag over the sort want, of at most the given depth; at depth 0 no part of it is asked for either
unfoldable pub check_bag : Sig → List ℕ → ℕ → ℕ → ℕ → List ℕ → Checked
check_bag s vars ends zero want bs = bag_front s (λ t r. done r) (λ r. done r) true want bs ends
check_bag s vars ends (suc d) want bs = bag_front s (check_term s vars ends d) (check_bag s vars ends d want) false want bs ends

-- what is checked after a bag operation's number
abbrev pub onward : (ℕ → List ℕ → Checked) → Result (ℕ × Bor (List ℕ)) FileFault → Checked
onward t (Ok x) = t x.0 x.1.now
onward t (Err e) = bad e
