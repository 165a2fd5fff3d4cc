use Rattle.fits.proofs.Listing.{keep_none, keep_one}
use Rattle.fits.proofs.list.keep.Goals as goal

pub returns-in_default : goal.returns-in_default
returns-in_default c = keep_none _ _ _ c.in_default.is

pub returns : goal.returns
returns c =
    keep_one _ _ _ _ _ c.in-Some.is c.put_fit.ensures
