mod Mails
