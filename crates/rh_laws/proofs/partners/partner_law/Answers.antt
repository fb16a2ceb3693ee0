use Rattle.rh_safety.proofs.SeenDesks.{fits}
use Rattle.rh_safety.proofs.SeenLaws.{always}
use Rattle.rh_laws.specs.Partners.{PollsPartners}
use Rattle.rh_laws.proofs.PartnerLaws.{polls-partners}
use Rattle.rh_laws.proofs.partners.partner_law.Goals as goal

pub returns : goal.returns
returns c = always PollsPartners (λ d w. polls-partners d (fits d w.kept))
