mod ByTicket
