-- The report is the only text that the definitions allow.
use Rattle.std.proofs.Common.{◌≡◌, ℕ, zero, suc, ◌<◌, List, [], ◌∷◌, ◌++◌, length, Some, None, Ok, Err, Option, sym, refl, ap, ◌∙◌, subst, arith}
use Rattle.std.specs.Fmt.{decimal}
use Rattle.std.specs.Prelude.{codes}
use Rattle.term.specs.Faults.{number_of}
use Rattle.net.specs.Reading.{Told, told}
use Rattle.net.specs.System.{SystemNet, cells}
use Rattle.judge.specs.Kinds.{Outcome}
use Rattle.bench.specs.Calls.{Lent, marking}
use Rattle.trace.specs.Carrying.{Does, Done, Fitting}
use Rattle.trace.specs.Moves.{Move}
use Rattle.trace.specs.Stops.{cell_of}
use Rattle.trace.specs.Reading.{Close, end, fault}
use Rattle.trace.specs.Replaying.{Plays, Ran, Stops}
use Rattle.trace.specs.declared.replays.Replayed.{Replayed}
use Rattle.trace.specs.declared.replays.Stop.{Stop}
use Rattle.report.specs.Lines.{claim_line, ended, replay_line, spaced}
use Rattle.report.specs.Report.{AreClaimLines, AreReplayLines, IsNetReport, IsReport, IsReportOf, IsTheReport, cell_shown, in_order, line}
use Rattle.report.proofs.Verdicts.{one_answer}
use Rattle.report.proofs.Alike.{Same, begun_same, does_same, never_both, one_fault, same_back}

-- lines that are equal one by one
each_same : (f g : ℕ → List ℕ) (k : ℕ) → ((i : ℕ) → i < k → f i ≡ g i) → in_order f k ≡ in_order g k
unfolding in_order
each_same f g zero h = refl
each_same f g (suc k) h =
    ap (λ (xs : List ℕ). xs ++ f k) (each_same f g k (λ i l. h i (omega arith))) ∙ ap (λ (xs : List ℕ). in_order g k ++ xs) (h k (omega arith))

-- the claims' lines
one_claims : (n : SystemNet) (a b : List ℕ) → AreClaimLines n a → AreClaimLines n b → a ≡ b
one_claims n a b p q =
    p.lines
    ∙ each_same (λ i. line (claim_line i (p.outcome i))) (λ i. line (claim_line i (q.outcome i))) (length n.claims)
    (λ i h. ap (λ (o : Outcome). line (claim_line i o)) (one_answer n i (p.outcome i) (q.outcome i) (p.judged i h) (q.judged i h)))
    ∙ sym q.lines

-- how two replays ended that say the same
one_number : (carried : ℕ) (s t : Stop) → number_of s.fault ≡ number_of t.fault → s.place ≡ t.place → ended carried (Some s) ≡ ended carried (Some t)
one_number carried s t a b =
    let f : ℕ → ℕ → List ℕ = λ i p. spaced (codes "replay" ∷ decimal carried ∷ codes "stopped" ∷ decimal i ∷ decimal p ∷ []) in
    ap (λ (i : ℕ). f i s.place) a ∙ ap (f (number_of t.fault)) b

stops_same : (n : SystemNet) (left : List Move) (c : Close) (l k : Lent) (s t : Option Stop) (carried : ℕ) → Same l k → Stops n l left c s → Stops n k left c t → ended carried s ≡ ended carried t
stops_same n [] end l k None None i e p q = refl
stops_same n [] end l k None (Some t) i e p q = absurd q
stops_same n [] end l k (Some s) t i e p q = absurd p
stops_same n [] (fault j b) l k None t i e p q = absurd p
stops_same n [] (fault j b) l k (Some s) None i e p q = absurd q
stops_same n [] (fault j b) l k (Some s) (Some t) i e p q = one_number i s t (ap number_of (p.0 ∙ sym q.0)) (p.1 ∙ sym q.1)
stops_same n (m ∷ ms) c l k None t i e p q = absurd p
stops_same n (m ∷ ms) c l k (Some s) None i e p q = absurd q
stops_same n (m ∷ ms) c l k (Some s) (Some t) i e p q =
    let f : s.fault ≡ t.fault = one_fault n m l k s.fault t.fault e p.refuses q.refuses in
    one_number i s t (ap number_of f) (p.place ∙ ap cell_of f ∙ sym q.place)

-- a command that is turned down is not carried out
no_more : (n : SystemNet) (m : Move) (left : List Move) (c : Close) (l k x : Lent) (s : Option Stop) → Same l k → Stops n l (m ∷ left) c s → Does n m k x → Fitting x → ⊥
no_more n m left c l k x None e p d f = p
no_more n m left c l k x (Some s) e p d f = never_both n m l k x s.fault e p.refuses d f

first_move : Move → List Move → Move
first_move d [] = d
first_move d (m ∷ ms) = m

other_moves : List Move → List Move
other_moves [] = []
other_moves (m ∷ ms) = ms

-- two replays carried out as many commands, left benches that are alike, and ended alike
record EndSame (i j : ℕ) (l k : Lent) (s t : Option Stop) : Type 0 where
  carried : i ≡ j
  same : Same l k
  ends : (carried : ℕ) → ended carried s ≡ ended carried t

longer : (i j : ℕ) (l k : Lent) (s t : Option Stop) → EndSame i j l k s t → EndSame (suc i) (suc j) l k s t
longer i j l k s t e = record { carried = ap suc e.carried; same = e.same; ends = e.ends }

-- so do two replays of the same commands from benches that are alike
plays_same : (n : SystemNet) (ms ns left right : List Move) (c : Close) (l k x y : Lent) (s t : Option Stop) → Same l k → ms ++ left ≡ ns ++ right → Done n l ms x → Done n k ns y → Stops n x left c s → Stops n y right c t
    → EndSame (length ms) (length ns) x y s t
unfolding first_move other_moves
plays_same n [] [] left right c l k x y s t e w p q a b =
    let same : Same x y = subst (λ (z : Lent). Same z y) (sym p) (subst (λ (z : Lent). Same l z) (sym q) e) in
    record { carried = refl; same = same; ends = λ i. stops_same n right c x y s t i same (subst (λ (ys : List Move). Stops n x ys c s) w a) b }
plays_same n [] (m ∷ ns) left right c l k x y s t e w p q a b =
    absurd (no_more n m (ns ++ right) c l k q.0 s e (subst (λ (z : Lent). Stops n z (m ∷ (ns ++ right)) c s) p (subst (λ (ys : List Move). Stops n x ys c s) w a)) q.1.0 q.1.1)
plays_same n (m ∷ ms) [] left right c l k x y s t e w p q a b =
    absurd (no_more n m (ms ++ left) c k l p.0 t (same_back l k e) (subst (λ (z : Lent). Stops n z (m ∷ (ms ++ left)) c t) q (subst (λ (ys : List Move). Stops n y ys c t) (sym w) b)) p.1.0 p.1.1)
plays_same n (m ∷ ms) (o ∷ ns) left right c l k x y s t e w p q a b =
    let one : m ≡ o = ap (first_move m) w in
    let rest : ms ++ left ≡ ns ++ right = ap other_moves w in
    let d : Does n m k q.0 = subst (λ (z : Move). Does n z k q.0) (sym one) q.1.0 in
    longer (length ms) (length ns) x y s t (plays_same n ms ns left right c p.0 q.0 x y s t (does_same n m l k p.0 q.0 e p.1.0 d) rest p.1.2 q.1.2 a b)

ran_same : (n : SystemNet) (bs : List ℕ) (l k x y : Lent) (r s : Replayed) → Same l k → Ran n bs l x r → Ran n bs k y s → EndSame r.carried s.carried x y r.stop s.stop
ran_same n bs l k x y r s e p q =
    let only = q.says.only p.said p.close p.says.this in
    let plays : Plays n q.said q.close l x r = subst (λ (ms : List Move). Plays n ms q.close l x r) only.0 (subst (λ (c : Close). Plays n p.said c l x r) only.1 p.plays) in
    let h = plays_same n plays.moves q.plays.moves plays.left q.plays.left q.close l k x y r.stop s.stop e (sym plays.whole ∙ q.plays.whole) plays.done q.plays.done plays.stops q.plays.stops in
    record { carried = plays.carried ∙ h.carried ∙ sym q.plays.carried; same = h.same; ends = h.ends }

-- the replay's lines
one_replay : (n : SystemNet) (trace a b : List ℕ) → AreReplayLines n trace a → AreReplayLines n trace b → a ≡ b
one_replay n trace a b p q =
    let u = p.played in
    let v = q.played in
    let same = begun_same n p.before q.before u.start v.start (p.room ∙ sym q.room) u.begun v.begun in
    let h = ran_same n trace u.start v.start p.after q.after p.replayed q.replayed same u.ran v.ran in
    let first : replay_line p.replayed ≡ replay_line q.replayed = ap (λ (i : ℕ). ended i p.replayed.stop) h.carried ∙ h.ends q.replayed.carried in
    let counts = each_same (λ c. cell_shown c (marking p.after c)) (λ c. cell_shown c (marking q.after c)) cells (λ c l. ap (cell_shown c) (h.same.counts c l)) in
    p.lines
    ∙ ap (λ (xs : List ℕ). line xs ++ in_order (λ c. cell_shown c (marking p.after c)) cells) first
    ∙ ap (λ (xs : List ℕ). line (replay_line q.replayed) ++ xs) counts
    ∙ sym q.lines

one_net : (n : SystemNet) (trace a b : List ℕ) → IsNetReport n trace a → IsNetReport n trace b → a ≡ b
one_net n trace a b p q =
    p.whole
    ∙ ap (λ (xs : List ℕ). xs ++ p.replay) (one_claims n p.claims q.claims p.are_claims q.are_claims)
    ∙ ap (λ (xs : List ℕ). q.claims ++ xs) (one_replay n trace p.replay q.replay p.are_replay q.are_replay)
    ∙ sym q.whole

one_of : (t : Told) (trace a b : List ℕ) → IsReportOf t trace a → IsReportOf t trace b → a ≡ b
one_of (Ok n) trace a b p q = one_net n trace a b p q
one_of (Err e) trace a b p q = p ∙ sym q

-- there is one report
pub one_report : (file trace a b : List ℕ) → IsReport file trace a → IsReport file trace b → a ≡ b
one_report file trace a b p q = one_of (told file) trace a b p q

pub the_report : (file trace text : List ℕ) → IsReport file trace text → IsTheReport file trace text
the_report file trace text h = record { is = h; only = λ other p. one_report file trace other text p h }
