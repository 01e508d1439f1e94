-- The text of a head is a doIt whose tree is that head.
use Rattle.std.proofs.Common.{◌≡◌, codes, refl, sym, subst}
use Rattle.s80_base.specs.Literal.{str}
use Rattle.s80_lex.specs.declared.token.TokenKind.TheVariants as kind
use Rattle.s80_lex.specs.Spelling.{quoted}
use Rattle.s80_form.proofs.lemmas.Identifiers.{identifier_of}
use Rattle.s80_form.proofs.lemmas.Building.{behind, then_named, last_keyword_string}
use Rattle.s80_form.proofs.lemmas.Operands.{str_is}
use Rattle.s80_form.proofs.lemmas.FormTexts.{literal_sent, not_reserved}
use Rattle.s80_change.specs.declared.head.SectionHead.{SectionHead}
use Rattle.s80_change.specs.Head.{head_text, IsLawfulHead, IsHeadOf}
use Rattle.s80_change.proofs.Heads.{one_head_of}

pub text_begins : (head : SectionHead) → IsLawfulHead head → IsHeadOf (head_text head) head
text_begins head lawful =
    let is = literal_sent (head_text head) head.class_name head.side (codes "methodsFor:") (str head.category) kind.Str (quoted 39 head.category) tt (str_is head.category) (λ depth. tt)
    (then_named head.class_name head.side _ _ (identifier_of head.class_name lawful.class_name) (behind 32 _ _ refl (last_keyword_string (codes "methodsFor") head.category refl))) in record {
      tree = _;
      tree_is = is.1;
      head_is = record {
        at = is.0;
        sending = record { tree_is = refl; receiver = not_reserved head.class_name lawful.class_name };
        brief = lawful.brief;
      };
    }

-- so a text is that of one lawful head at most
pub head_text_same : (one other : SectionHead) → IsLawfulHead one → IsLawfulHead other → head_text one ≡ head_text other → one ≡ other
head_text_same one other h k e = one_head_of (head_text one) one other (text_begins one h) (subst (λ t. IsHeadOf t other) (sym e) (text_begins other k))
