-- What was written is read back.
use Rattle.std.proofs.Common.{◌≡◌, ℕ, zero, suc, ◌<◌, ◌≤◌, List, [], ◌∷◌, ◌++◌, length, sym, refl, ap, ◌∙◌, append_assoc, append-nil, arith}
use Rattle.std.proofs.lemmas.Bool.Decides.{nat_tests}
use Rattle.term.proofs.Cuts.{tail}
use Rattle.trace.specs.Moves.{Move, fire, back, restart, end_bytes, longest_trace, move_bytes, trace_of, written}
use Rattle.trace.specs.Reading.{First, move, close, Close, end, first_of, Says, SaysOnly, says, too_long}

-- one command, and what follows it
pub first_written : (m : Move) (rest : List ℕ) (ends : ℕ) → first_of (move_bytes m ++ rest) ends ≡ move m rest
first_written (fire t a b c d) rest ends = grind (arith, nat_tests, tail 6 (move_bytes (fire t a b c d) ++ rest))
first_written back rest ends = grind (arith, nat_tests, tail 1 (move_bytes back ++ rest))
first_written restart rest ends = grind (arith, nat_tests, tail 1 (move_bytes restart ++ rest))

-- the end alone
pub first_end : (ends : ℕ) → first_of end_bytes ends ≡ close end
first_end ends = refl

-- commands after commands
pub written_append : (ms ns : List Move) → written (ms ++ ns) ≡ written ms ++ written ns
written_append [] ns = refl
written_append (m ∷ ms) ns = ap (λ l. move_bytes m ++ l) (written_append ms ns) ∙ sym (append_assoc (move_bytes m) (written ms) (written ns))

-- one command more
pub written_more : (ms : List Move) (m : Move) → written (ms ++ m ∷ []) ≡ written ms ++ move_bytes m
written_more ms m = written_append ms (m ∷ []) ∙ ap (λ l. written ms ++ l) (append-nil (move_bytes m))

-- no command begins where the trace closes
pub not_close : (m : Move) (rest bs : List ℕ) (ends : ℕ) (c : Close) → bs ≡ move_bytes m ++ rest → first_of bs ends ≡ close c → ⊥
not_close m rest bs ends c e h =
    let f : first_of bs ends ≡ move m rest = ap (λ l. first_of l ends) e ∙ first_written m rest ends in
    let z : ◌≡◌ {A = ℕ} 0 1 = cc in omega arith

-- the first commands of the same bytes are the same, and so are the bytes that follow them
pub same_first : (m n : Move) (r s : List ℕ) → move_bytes m ++ r ≡ move_bytes n ++ s → (m ≡ n) × (r ≡ s)
same_first m n r s e =
    let f : move m r ≡ move n s = sym (first_written m r 0) ∙ ap (λ l. first_of l 0) e ∙ first_written n s 0 in
    (cc, cc)

-- bytes say one sequence of commands, and close in one way
pub says_same : (ends : ℕ) (ms ns : List Move) (r s : List ℕ) (c d : Close) → written ms ++ r ≡ written ns ++ s → first_of r ends ≡ close c → first_of s ends ≡ close d → (ms ≡ ns) × (c ≡ d)
says_same ends [] [] r s c d e p q =
    let f : close c ≡ close d = sym p ∙ ap (λ l. first_of l ends) e ∙ q in
    (refl, cc)
says_same ends [] (n ∷ ns) r s c d e p q =
    elim (not_close n (written ns ++ s) r ends c (e ∙ append_assoc (move_bytes n) (written ns) s) p) [ ]
says_same ends (m ∷ ms) [] r s c d e p q =
    elim (not_close m (written ms ++ r) s ends d (sym e ∙ append_assoc (move_bytes m) (written ms) r) q) [ ]
says_same ends (m ∷ ms) (n ∷ ns) r s c d e p q =
    let f = same_first m n (written ms ++ r) (written ns ++ s) (sym (append_assoc (move_bytes m) (written ms) r) ∙ e ∙ append_assoc (move_bytes n) (written ns) s) in
    let g = says_same ends ms ns r s c d f.1 p q in
    let h = f.0 in
    let k = g.0 in
    (cc, g.1)

-- a trace says one thing
pub says_one : {bs : List ℕ} {ms ns : List Move} {c d : Close} → Says bs ms c → Says bs ns d → (ms ≡ ns) × (c ≡ d)
says_one {bs} {ms} {ns} {c} {d} (says r l e p) (says s k f q) = says_same (length bs) ms ns r s c d (sym e ∙ f) p q
says_one (says r l e p) (too_long k) = let z : ⊥ = omega arith in elim z [ ]
says_one (too_long l) (says s k f q) = let z : ⊥ = omega arith in elim z [ ]
says_one (too_long l) (too_long k) = (refl, refl)

-- and nothing else
pub says_only : {bs : List ℕ} {ms : List Move} {c : Close} → Says bs ms c → SaysOnly bs ms c
says_only t = record { this = t; only = λ ns d u. says_one u t }

-- what was written and ended is read back, and nothing else
pub says_written : (bs : List ℕ) (ms : List Move) → length bs ≤ longest_trace → bs ≡ trace_of ms → SaysOnly bs ms end
says_written bs ms l e = says_only (says end_bytes l e (first_end (length bs)))

-- a command that is read stands there in its bytes
pub read_written : (bs : List ℕ) (ends : ℕ) (m : Move) (rest : List ℕ) → first_of bs ends ≡ move m rest → bs ≡ move_bytes m ++ rest
read_written [] ends m rest h = let z : ◌≡◌ {A = ℕ} 0 1 = cc in let y : ⊥ = omega arith in elim y [ ]
read_written (x ∷ bs) ends back rest h = grind (arith, nat_tests, tail 1 (x ∷ bs))
read_written (x ∷ bs) ends restart rest h = grind (arith, nat_tests, tail 1 (x ∷ bs))
read_written (x ∷ []) ends (fire t a b c d) rest h = grind (arith, nat_tests)
read_written (x ∷ x1 ∷ []) ends (fire t a b c d) rest h = grind (arith, nat_tests)
read_written (x ∷ x1 ∷ x2 ∷ []) ends (fire t a b c d) rest h = grind (arith, nat_tests)
read_written (x ∷ x1 ∷ x2 ∷ x3 ∷ []) ends (fire t a b c d) rest h = grind (arith, nat_tests)
read_written (x ∷ x1 ∷ x2 ∷ x3 ∷ x4 ∷ []) ends (fire t a b c d) rest h = grind (arith, nat_tests)
read_written (x ∷ x1 ∷ x2 ∷ x3 ∷ x4 ∷ x5 ∷ bs) ends (fire t a b c d) rest h =
    grind (arith, nat_tests, tail 6 (x ∷ x1 ∷ x2 ∷ x3 ∷ x4 ∷ x5 ∷ bs))

-- what follows a command is shorter
pub shorter : (m : Move) (rest : List ℕ) → length rest < length (move_bytes m ++ rest)
shorter (fire t a b c d) rest = omega arith
shorter back rest = omega arith
shorter restart rest = omega arith

-- there are no more commands than bytes
pub counted : (ms : List Move) (rest : List ℕ) → length ms ≤ length (written ms ++ rest)
counted [] rest = omega arith
counted (m ∷ ms) rest =
    let e = ap length (append_assoc (move_bytes m) (written ms) rest) in
    omega (arith, counted ms rest, shorter m (written ms ++ rest))

-- a command that is read follows those that were written before it
pub one_more : (bs : List ℕ) (ms : List Move) (rest : List ℕ) (ends : ℕ) (m : Move) (next : List ℕ) → bs ≡ written ms ++ rest → first_of rest ends ≡ move m next → bs ≡ written (ms ++ m ∷ []) ++ next
one_more bs ms rest ends m next e h =
    e
    ∙ ap (λ l. written ms ++ l) (read_written rest ends m next h)
    ∙ sym (append_assoc (written ms) (move_bytes m) next)
    ∙ ap (λ l. l ++ next) (sym (written_more ms m))

-- at most n bytes that begin with f
reads : (n : ℕ) (bs : List ℕ) (ends : ℕ) (f : First) → first_of bs ends ≡ f → length bs ≤ n → (ms : List Move) × (c : Close) × (rest : List ℕ) × (bs ≡ written ms ++ rest) × (first_of rest ends ≡ close c)
reads n bs ends (close c) e l = ([], c, bs, refl, e)
reads zero bs ends (move m rest) e l =
    let w = ap length (read_written bs ends m rest e) in
    let z : ⊥ = omega (arith, shorter m rest) in
    elim z [ ]
reads (suc n) bs ends (move m rest) e l =
    let w = read_written bs ends m rest e in
    let k = ap length w in
    let g = reads n rest ends (first_of rest ends) refl (omega (arith, shorter m rest)) in
    (m ∷ g.0, g.1, g.2, w ∙ ap (λ l. move_bytes m ++ l) g.3 ∙ sym (append_assoc (move_bytes m) (written g.0) g.2), g.4)

-- commands that a trace begins with are the first of those that it says
pub says_after : (bs : List ℕ) (ms : List Move) (rest : List ℕ) → length bs ≤ longest_trace → bs ≡ written ms ++ rest → (ks : List Move) × (c : Close) × Says bs (ms ++ ks) c
says_after bs ms rest l e =
    let g = reads (length rest) rest (length bs) (first_of rest (length bs)) refl (omega arith) in
    let w : bs ≡ written (ms ++ g.0) ++ g.2 = e ∙ ap (λ x. written ms ++ x) g.3 ∙ sym (append_assoc (written ms) (written g.0) g.2) ∙ ap (λ x. x ++ g.2) (sym (written_append ms g.0)) in
    (g.0, g.1, says g.2 l w g.4)
