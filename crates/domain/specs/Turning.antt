-- A domain whose relation is read backwards keeps the laws.
use Rattle.domain.specs.Meaning.{Laws, Meaning}
use Rattle.domain.specs.Domains.{turned}

pub turned_laws : {V : Type 0} {d : Meaning V} → Laws d → Laws (turned d)
turned_laws l = record {
  nil_holds = l.nil_holds;
  plus_holds = l.plus_holds;
  weight_holds = l.weight_holds;
  assoc = l.assoc;
  comm = l.comm;
  neutral = l.neutral;
  rel_refl = l.rel_refl;
  rel_trans = λ u v w a b c p q. l.rel_trans w v u c b a q p;
  rel_plus = λ u v w a b c p. l.rel_plus u w v a c b p;
  code_zero = l.code_zero;
  weight_zero = l.weight_zero;
  no_weight = l.no_weight;
  size_nil = l.size_nil;
  size_plus = l.size_plus;
  size_weight = l.size_weight;
}
