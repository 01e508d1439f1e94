use Rattle.s80_compile.proofs.SentArms.{arms_had}
use Rattle.s80_compile.proofs.lemmas.SentCore.{core_sent}
use Rattle.s80_compile.proofs.agreement.messages_fit_their_selectors.Goals as goal

pub returns-clause-arms : goal.returns-clause-arms
returns-clause-arms c = arms_had

pub returns-clause-core : goal.returns-clause-core
returns-clause-core c = core_sent
